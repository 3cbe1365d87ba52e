-- How large values are: what writing them goes down.
use Rattle.std.proofs.Common.{◌≡◌, ℕ, zero, suc, ◌+◌, ◌<◌, List, [], ◌∷◌, Some, ap, arith}
use Rattle.std.specs.List.{slice_get}
use Rattle.atspi_types.specs.Data.{Data, number_data, boolean_data, text_data, path_data, signature_data, array_data, structure_data, dictionary_data, variant_data, Items, no_items, item, items_of, Entries, no_entries, entry, entries_of}

abbrev mutual
  pub size : Data → ℕ
  size (number_data m n) = 0
  size (boolean_data b) = 0
  size (text_data characters) = 0
  size (path_data bytes) = 0
  size (signature_data ks) = 0
  size (array_data k ds) = sizes ds + 2
  size (structure_data ds) = sizes ds + 2
  size (dictionary_data k v es) = entry_sizes es + 2
  size (variant_data k d) = size d + 2

  pub sizes : Items → ℕ
  sizes no_items = 0
  sizes (item d ds) = size d + 1 + sizes ds

  pub entry_sizes : Entries → ℕ
  entry_sizes no_entries = 0
  entry_sizes (entry key value es) = size key + size value + 2 + entry_sizes es

-- a value is smaller than a list that it is in
pub value_below : (ds : List Data) (i : ℕ) (d : Data) → slice_get ds i ≡ Some d → size d < sizes (items_of ds)
value_below [] i d e = absurd cc
value_below (x ∷ ds) zero d e = let same : x ≡ d = cc in omega (arith, ap size same)
value_below (x ∷ ds) (suc i) d e = omega (arith, value_below ds i d e)

-- and so is an entry
pub entry_below : (es : List (Data × Data)) (i : ℕ) (e : Data × Data) → slice_get es i ≡ Some e → size e.0 + size e.1 + 1 < entry_sizes (entries_of es)
entry_below [] i e h = absurd cc
entry_below (x ∷ es) zero e h = let same : x ≡ e = cc in omega (arith, ap (λ (p : Data × Data). size p.0) same, ap (λ (p : Data × Data). size p.1) same)
entry_below (x ∷ es) (suc i) e h = omega (arith, entry_below es i e h)
