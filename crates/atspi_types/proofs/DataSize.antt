-- The size of a value, which falls from a container to the values in it.
use Rattle.std.proofs.Common.{◌≡◌, ℕ, zero, suc, ◌+◌, ◌<◌, List, [], ◌∷◌, length, get_or, map, Some, subst, ap, arith}
use Rattle.std.specs.List.{slice_get}
use Rattle.atspi_types.specs.Data.{Data, number_data, boolean_data, text_data, path_data, signature_data, array_data, structure_data, dictionary_data, variant_data, Items, no_items, item, items_of, Entries, no_entries, entry, entries_of}
use Rattle.atspi_types.specs.DataView.{data_of, pair_of}
use Rattle.atspi_types.specs.declared.value.Value.{Value}

abbrev mutual
  -- how many values stand in a value, in all
  pub data_size : Data → ℕ
  data_size (number_data n x) = 0
  data_size (boolean_data b) = 0
  data_size (text_data cs) = 0
  data_size (path_data bs) = 0
  data_size (signature_data ks) = 0
  data_size (array_data k ds) = suc (items_size ds)
  data_size (structure_data ds) = suc (items_size ds)
  data_size (dictionary_data k v es) = suc (entries_size es)
  data_size (variant_data k d) = suc (data_size d)

  pub items_size : Items → ℕ
  items_size no_items = 0
  items_size (item d ds) = suc (data_size d + items_size ds)

  pub entries_size : Entries → ℕ
  entries_size no_entries = 0
  entries_size (entry k v es) = suc (data_size k + data_size v + entries_size es)

-- a value of a list is smaller than the list
pub data_size_at : (ds : List Data) (i : ℕ) (d : Data) → slice_get ds i ≡ Some d → data_size d < items_size (items_of ds)
data_size_at [] i d e = absurd cc
data_size_at (x ∷ ds) zero d e = let same : x ≡ d = cc in omega (arith, ap data_size same)
data_size_at (x ∷ ds) (suc i) d e = let below = data_size_at ds i d e in omega (arith, below)

-- a key and a value of a list of pairs are smaller than the list
pub pair_size_in : (items : List (Value × Value)) (es : List (Data × Data)) (i : ℕ) (pair : Value × Value) → map pair_of items ≡ es → i < length items → pair ≡ get_or items i pair
    → data_size (data_of pair.0) + data_size (data_of pair.1) < entries_size (entries_of es)
pair_size_in items es i pair e lt is = let P : List (Data × Data) → Type 0 = λ xs. data_size (data_of pair.0) + data_size (data_of pair.1) < entries_size (entries_of xs) in subst P e (by items i lt is)
  where
    by : (xs : List (Value × Value)) (i : ℕ) → i < length xs → pair ≡ get_or xs i pair → data_size (data_of pair.0) + data_size (data_of pair.1) < entries_size (entries_of (map pair_of xs))
    by [] i lt is = absurd (omega arith)
    by (x ∷ xs) zero lt is =
        let same : pair ≡ x = cc in
        omega (arith, ap (λ (p : Value × Value). data_size (data_of p.0)) same, ap (λ (p : Value × Value). data_size (data_of p.1)) same)
    by (x ∷ xs) (suc i) lt is = let below = by xs i (omega arith) is in omega (arith, below)
