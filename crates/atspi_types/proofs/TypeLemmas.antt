-- The types of values, one value more, and the size of values, which falls from a struct to its fields.
use Rattle.std.proofs.Common.{◌≡◌, ℕ, zero, suc, ◌+◌, ◌<◌, ◌≤◌, Result, Ok, Err, OnOk, OnErr, List, [], ◌∷◌, ◌++◌, length, take, get_or, map, Some, refl, sym, ap, ◌∙◌, arith, append_assoc}
use Rattle.std.specs.Prelude.{min, max}
use Rattle.std.specs.List.{slice_get}
use Rattle.std.proofs.lemmas.List.{take_more, take_all, take-take, take_at, length-append, map-append}
use Rattle.std.proofs.lemmas.Option.{slice_get_within, get_or_from_slice_get}
use Rattle.atspi_types.specs.Kinds.{Kind, Kinds, kind, kinds_of}
use Rattle.atspi_types.specs.Data.{Data, number_data, boolean_data, text_data, path_data, signature_data, array_data, structure_data, dictionary_data, variant_data, Items, no_items, item, items_of, type_of, types_of}
use Rattle.atspi_types.specs.Signatures.{type_bytes, signature_bytes}
use Rattle.atspi_types.specs.inner.Extents.{IsExtent, IsExtentOf}
use Rattle.atspi_types.specs.declared.ty.spelling.Extent.{Extent}
use Rattle.atspi_types.proofs.SignatureFronts.{bytes-push}
use Rattle.atspi_types.proofs.SpellingLemmas.{extent_push}

abbrev mutual
  -- how many values stand in a struct, in all
  pub size : Data → ℕ
  size (number_data n x) = 0
  size (boolean_data b) = 0
  size (text_data cs) = 0
  size (path_data bs) = 0
  size (signature_data ks) = 0
  size (array_data k ds) = 0
  size (structure_data ds) = suc (sizes ds)
  size (dictionary_data k v es) = 0
  size (variant_data k d) = 0

  pub sizes : Items → ℕ
  sizes no_items = 0
  sizes (item d ds) = suc (size d + sizes ds)

pub size_at : (ds : List Data) (i : ℕ) (d : Data) → slice_get ds i ≡ Some d → size d < sizes (items_of ds)
size_at [] i d e = absurd cc
size_at (x ∷ ds) zero d e = let same : x ≡ d = cc in omega (arith, ap size same)
size_at (x ∷ ds) (suc i) d e = let below = size_at ds i d e in omega (arith, below)

pub types_all : (ds : List Data) → kinds_of (map type_of ds) ≡ types_of (items_of ds)
types_all [] = refl
types_all (d ∷ ds) = ap (λ (ks : Kinds). kind (type_of d) ks) (types_all ds)

-- the types of the first values, and one more
pub types_more : (ds : List Data) (i : ℕ) (d : Data) → slice_get ds i ≡ Some d → map type_of (take (i + 1) ds) ≡ map type_of (take i ds) ++ type_of d ∷ []
types_more ds i d e =
    ap (map type_of) (take_more ds i d (slice_get_within ds i d e)) ∙ (map-append type_of (take i ds) (get_or ds i d ∷ []) ∙ ap (λ (x : Data). map type_of (take i ds) ++ type_of x ∷ []) (get_or_from_slice_get ds i d d e))

-- all of them
pub types_whole : (ds : List Data) (i : ℕ) → length ds ≤ i → kinds_of (map type_of (take i ds)) ≡ types_of (items_of ds)
types_whole ds i le = ap (λ (xs : List Data). kinds_of (map type_of xs)) (take_all i ds le) ∙ types_all ds

pub type_bytes_more : (ds : List Data) (i : ℕ) (d : Data) (before out after : List ℕ) → slice_get ds i ≡ Some d → out ≡ before ++ signature_bytes (kinds_of (map type_of (take i ds)))
    → after ≡ out ++ type_bytes (type_of d) → after ≡ before ++ signature_bytes (kinds_of (map type_of (take (i + 1) ds)))
type_bytes_more ds i d before out after at e f =
    f ∙ (ap (λ (w : List ℕ). w ++ type_bytes (type_of d)) e ∙ (append_assoc before (signature_bytes (kinds_of (map type_of (take i ds)))) (type_bytes (type_of d))
    ∙ ap (λ (w : List ℕ). before ++ w) (sym (bytes-push (map type_of (take i ds)) (type_of d)) ∙ ap (λ (ks : List Kind). signature_bytes (kinds_of ks)) (sym (types_more ds i d at)))))

pub types_extent_more : (e f g : Extent) (ds : List Data) (i : ℕ) (d : Data) → slice_get ds i ≡ Some d → IsExtent e (kinds_of (map type_of (take i ds))) → IsExtentOf f (type_of d)
    → g.bytes ≡ min (e.bytes + f.bytes) 256 → g.arrays ≡ max e.arrays f.arrays → g.structs ≡ max e.structs f.structs → IsExtent g (kinds_of (map type_of (take (i + 1) ds)))
types_extent_more e f g ds i d at a b bytes arrays structs = rw (types_more ds i d at) (extent_push e f g (map type_of (take i ds)) (type_of d) a b bytes arrays structs)

-- what an append leaves of what was there, whether it could be done or not
pub front_pushed : {T E : Type 0} (result : Result T E) (before new bytes : List ℕ) → OnOk result (new ≡ before ++ bytes) → OnErr result (new ≡ before) → take (length before) new ≡ before
front_pushed (Ok x) before new bytes ok err = ap (λ (w : List ℕ). take (length before) w) ok ∙ take_at before bytes (length before) refl
front_pushed (Err x) before new bytes ok err = ap (λ (w : List ℕ). take (length before) w) err ∙ take_all (length before) before (omega arith)

-- what stands in front stays there
pub front_of_more : (before mid new bytes : List ℕ) → mid ≡ before ++ bytes → take (length mid) new ≡ mid → take (length before) new ≡ before
front_of_more before mid new bytes e front =
    let le : length before ≤ length mid = omega (arith, ap length e, length-append before bytes) in
    sym (take-take (length before) (length mid) new le) ∙ (ap (λ (w : List ℕ). take (length before) w) (front ∙ e) ∙ take_at before bytes (length before) refl)
