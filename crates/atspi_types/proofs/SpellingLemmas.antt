-- The spelling and the extent of a list of types, one type more.
use Rattle.std.proofs.Common.{◌≡◌, ℕ, ◌+◌, ◌<◌, ◌≤◌, List, [], ◌∷◌, ◌++◌, length, take, get_or, map, sym, ap, ◌∙◌, arith, length-append, append_assoc}
use Rattle.std.specs.Prelude.{min, max}
use Rattle.std.proofs.lemmas.List.{take_more, take_all, map-append}
use Rattle.atspi_types.specs.Kinds.{Kind, kinds_of}
use Rattle.atspi_types.specs.KindView.{kind_of, kinds_in}
use Rattle.atspi_types.specs.Signatures.{type_bytes, signature_bytes}
use Rattle.atspi_types.specs.inner.Extents.{IsExtent, IsExtentOf}
use Rattle.atspi_types.specs.declared.ty.Ty.{Ty}
use Rattle.atspi_types.specs.declared.ty.Tys.{Tys}
use Rattle.atspi_types.specs.declared.ty.spelling.Extent.{Extent}
use Rattle.atspi_types.proofs.KindLemmas.{kinds_in-map}
use Rattle.atspi_types.proofs.SignatureFronts.{bytes-push, arrays-push, structs-push}

-- the first types, and one more
pub kinds_more : (items : List Ty) (i : ℕ) (ty : Ty) → i < length items → ty ≡ get_or items i ty → map kind_of (take (i + 1) items) ≡ map kind_of (take i items) ++ kind_of ty ∷ []
kinds_more items i ty lt is = ap (map kind_of) (take_more items i ty lt) ∙ map-append kind_of (take i items) (get_or items i ty ∷ []) ∙ ap (λ one. map kind_of (take i items) ++ kind_of one ∷ []) (sym is)

-- all of them
pub kinds_all : (types : Tys) (items : List Ty) (i : ℕ) → items ≡ types.items.items → length items ≤ i → map kind_of (take i items) ≡ kinds_in types
kinds_all types items i is le = rw (take_all i items le, is) (sym (kinds_in-map types))

pub bytes_more : (items : List Ty) (i : ℕ) (ty : Ty) (before out after : List ℕ) → i < length items → ty ≡ get_or items i ty → out ≡ before ++ signature_bytes (kinds_of (map kind_of (take i items)))
    → after ≡ out ++ type_bytes (kind_of ty) → after ≡ before ++ signature_bytes (kinds_of (map kind_of (take (i + 1) items)))
bytes_more items i ty before out after lt is e f =
    f ∙ ap (λ w. w ++ type_bytes (kind_of ty)) e ∙ append_assoc before (signature_bytes (kinds_of (map kind_of (take i items)))) (type_bytes (kind_of ty))
    ∙ ap (λ w. before ++ w) (sym (bytes-push (map kind_of (take i items)) (kind_of ty)) ∙ ap (λ ks. signature_bytes (kinds_of ks)) (sym (kinds_more items i ty lt is)))

pub extent_push : (e f g : Extent) (ks : List Kind) (k : Kind) → IsExtent e (kinds_of ks) → IsExtentOf f k → g.bytes ≡ min (e.bytes + f.bytes) 256 → g.arrays ≡ max e.arrays f.arrays → g.structs ≡ max e.structs f.structs → IsExtent g (kinds_of (ks ++ k ∷ []))
extent_push e f g ks k a b bytes arrays structs = record {
  bytes = rw (bytes-push ks k, length-append (signature_bytes (kinds_of ks)) (type_bytes k)) (omega (arith, bytes, a.bytes, b.bytes));
  arrays = rw (arrays-push ks k) (omega (arith, arrays, a.arrays, b.arrays));
  structs = rw (structs-push ks k) (omega (arith, structs, a.structs, b.structs));
}

pub extent_more : (e f g : Extent) (items : List Ty) (i : ℕ) (ty : Ty) → i < length items → ty ≡ get_or items i ty → IsExtent e (kinds_of (map kind_of (take i items))) → IsExtentOf f (kind_of ty)
    → g.bytes ≡ min (e.bytes + f.bytes) 256 → g.arrays ≡ max e.arrays f.arrays → g.structs ≡ max e.structs f.structs → IsExtent g (kinds_of (map kind_of (take (i + 1) items)))
extent_more e f g items i ty lt is a b bytes arrays structs = rw (kinds_more items i ty lt is) (extent_push e f g (map kind_of (take i items)) (kind_of ty) a b bytes arrays structs)
