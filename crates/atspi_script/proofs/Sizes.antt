-- How large values are: what writing them goes down.
use Rattle.std.proofs.Common.{◌≡◌, ℕ, ◌+◌, List, ◌∷◌, sym, ap}
use Rattle.atspi_types.specs.Data.{Data, number_data, boolean_data, text_data, path_data, signature_data, array_data, structure_data, dictionary_data, variant_data, Items, no_items, item, items_of, Entries, no_entries, entry}
use Rattle.atspi_marshal.specs.Reading.{struct_of, entries_in}

abbrev mutual
  pub size : Data → ℕ
  size (number_data m n) = 0
  size (boolean_data b) = 0
  size (text_data characters) = 0
  size (path_data bytes) = 0
  size (signature_data ks) = 0
  size (array_data k ds) = sizes ds + 3
  size (structure_data ds) = sizes ds + 3
  size (dictionary_data k v es) = entry_sizes es + 3
  size (variant_data k d) = size d + 3

  pub sizes : Items → ℕ
  sizes no_items = 0
  sizes (item d ds) = size d + 2 + sizes ds

  pub entry_sizes : Entries → ℕ
  entry_sizes no_entries = 0
  entry_sizes (entry key value es) = size key + size value + 2 + entry_sizes es

-- the first of several values, and those behind it
pub sizes_come : (old new : List Data) (d : Data) → old ≡ d ∷ new → size d + 2 + sizes (items_of new) ≡ sizes (items_of old)
sizes_come old new d e = sym (ap (λ (ds : List Data). sizes (items_of ds)) e)

-- and of several entries
pub entry_sizes_come : (old new : List Data) (key value : Data) → old ≡ struct_of key value ∷ new → size key + size value + 2 + entry_sizes (entries_in (items_of new)) ≡ entry_sizes (entries_in (items_of old))
entry_sizes_come old new key value e = sym (ap (λ (ds : List Data). entry_sizes (entries_in (items_of ds))) e)
