-- Lists of well-typed values, one value more.
use Rattle.std.proofs.Common.{◌≡◌, ◌↔◌, IsTrue, ℕ, zero, suc, ◌+◌, ◌<◌, ◌≤◌, List, [], ◌∷◌, ◌++◌, length, take, get_or, map, Option, Some, None, Bool, true, IfSome, refl, subst, sym, ap, ◌∙◌, arith}
use Rattle.std.specs.List.{slice_get}
use Rattle.std.specs.Option.{is_some}
use Rattle.std.proofs.lemmas.List.{take_more, take_all, map-append, length-map}
use Rattle.std.proofs.lemmas.Option.{slice_get_within, get_or_from_slice_get}
use Rattle.atspi_types.specs.Kinds.{Kind, kinds_of}
use Rattle.atspi_types.specs.KindView.{kind_of}
use Rattle.atspi_types.specs.Data.{Data, structure_data, items_of, entries_of, type_of, types_of, IsWellTyped, AreWellTyped, AllHaveType, AllHaveTypes}
use Rattle.atspi_types.specs.DataView.{data_of, pair_of}
use Rattle.atspi_types.specs.declared.ty.Ty.{Ty}
use Rattle.atspi_types.specs.declared.value.Value.{Value}
use Rattle.atspi_types.proofs.SameLemmas.{kinds_of-once}
use Rattle.atspi_types.proofs.SpellingLemmas.{kinds_more}
use Rattle.atspi_types.proofs.TypeLemmas.{types_all, types_more}

-- the values of a struct have the types, as lists
pub types_as_lists : (ds : List Data) (ks : List Kind) → types_of (items_of ds) ≡ kinds_of ks → map type_of ds ≡ ks
types_as_lists ds ks e = kinds_of-once (map type_of ds) ks (types_all ds ∙ e)

-- as many values as types
pub types_have_len : (ds : List Data) (ts : List Ty) (ks : List Kind) → map kind_of ts ≡ ks → types_of (items_of ds) ≡ kinds_of ks → length ds ≡ length ts
types_have_len ds ts ks e same = let lists : map type_of ds ≡ map kind_of ts = types_as_lists ds ks same ∙ sym e in omega (arith, ap length lists, length-map ds type_of, length-map ts kind_of)

pub types_have_more : (ds : List Data) (ts : List Ty) (i : ℕ) (d : Data) (t : Ty) → slice_get ds i ≡ Some d → i < length ts → t ≡ get_or ts i t → type_of d ≡ kind_of t
    → map type_of (take i ds) ≡ map kind_of (take i ts) → map type_of (take (i + 1) ds) ≡ map kind_of (take (i + 1) ts)
types_have_more ds ts i d t at lt is one all = types_more ds i d at ∙ (ap (λ (ks : List Kind). ks ++ type_of d ∷ []) all ∙ ap (λ (k : Kind). map kind_of (take i ts) ++ k ∷ []) one) ∙ sym (kinds_more ts i t lt is)

type_at : (ds : List Data) (ts : List Ty) (i : ℕ) (d : Data) (t : Ty) → slice_get ds i ≡ Some d → i < length ts → t ≡ get_or ts i t → map type_of ds ≡ map kind_of ts → type_of d ≡ kind_of t
type_at [] ts i d t at lt is e = absurd cc
type_at (x ∷ ds) [] i d t at lt is e = absurd (omega arith)
type_at (x ∷ ds) (u ∷ ts) zero d t at lt is e = let p : x ≡ d = cc in let q : t ≡ u = cc in let s : type_of x ≡ kind_of u = cc in ap type_of (sym p) ∙ s ∙ sym (ap kind_of q)
type_at (x ∷ ds) (u ∷ ts) (suc i) d t at lt is e = type_at ds ts i d t at (omega arith) is (let rest : map type_of ds ≡ map kind_of ts = cc in rest)

pub types_have_at : (ds : List Data) (ts : List Ty) (ks : List Kind) (i : ℕ) (d : Data) (t : Ty) → map kind_of ts ≡ ks → slice_get ds i ≡ Some d → i < length ts → t ≡ get_or ts i t → types_of (items_of ds) ≡ kinds_of ks → type_of d ≡ kind_of t
types_have_at ds ts ks i d t e at lt is same = type_at ds ts i d t at lt is (types_as_lists ds ks same ∙ sym e)

pub types_have_all : (ds : List Data) (ts : List Ty) (ks : List Kind) (i : ℕ) → map kind_of ts ≡ ks → length ds ≤ i → length ts ≤ i → map type_of (take i ds) ≡ map kind_of (take i ts) → types_of (items_of ds) ≡ kinds_of ks
types_have_all ds ts ks i e le le' all =
    sym (types_all ds) ∙ ap kinds_of (ap (map type_of) (sym (take_all i ds le)) ∙ all ∙ ap (map kind_of) (take_all i ts le') ∙ e)

next : (ds : List Data) (i : ℕ) (d : Data) → slice_get ds i ≡ Some d → take (i + 1) ds ≡ take i ds ++ d ∷ []
next ds i d at = take_more ds i d (slice_get_within ds i d at) ∙ ap (λ (x : Data). take i ds ++ x ∷ []) (get_or_from_slice_get ds i d d at)

typed_push : (ds : List Data) (d : Data) → AreWellTyped (items_of ds) → IsWellTyped d → AreWellTyped (items_of (ds ++ d ∷ []))
typed_push [] d all one = (one, tt)
typed_push (x ∷ ds) d all one = (all.0, typed_push ds d all.1 one)

pub typed_more : (ds : List Data) (i : ℕ) (d : Data) → slice_get ds i ≡ Some d → AreWellTyped (items_of (take i ds)) → IsWellTyped d → AreWellTyped (items_of (take (i + 1) ds))
typed_more ds i d at all one = rw (next ds i d at) (typed_push (take i ds) d all one)

pub typed_at : (ds : List Data) (i : ℕ) (d : Data) → slice_get ds i ≡ Some d → AreWellTyped (items_of ds) → IsWellTyped d
typed_at [] i d at all = absurd cc
typed_at (x ∷ ds) zero d at all = let same : x ≡ d = cc in subst IsWellTyped same all.0
typed_at (x ∷ ds) (suc i) d at all = typed_at ds i d at all.1

typed_as_push : (k : Kind) (ds : List Data) (d : Data) → AllHaveType k (items_of ds) → type_of d ≡ k → IsWellTyped d → AllHaveType k (items_of (ds ++ d ∷ []))
typed_as_push k [] d all has one = (has, one, tt)
typed_as_push k (x ∷ ds) d all has one = (all.0, all.1, typed_as_push k ds d all.2 has one)

pub typed_as_more : (k : Kind) (ds : List Data) (i : ℕ) (d : Data) → slice_get ds i ≡ Some d → AllHaveType k (items_of (take i ds)) → (type_of d ≡ k) × IsWellTyped d → AllHaveType k (items_of (take (i + 1) ds))
typed_as_more k ds i d at all one = rw (next ds i d at) (typed_as_push k (take i ds) d all one.0 one.1)

pub typed_as_at : (k : Kind) (ds : List Data) (i : ℕ) (d : Data) → slice_get ds i ≡ Some d → AllHaveType k (items_of ds) → (type_of d ≡ k) × IsWellTyped d
typed_as_at k [] i d at all = absurd cc
typed_as_at k (x ∷ ds) zero d at all = let same : x ≡ d = cc in let P : Data → Type 0 = λ y. (type_of y ≡ k) × IsWellTyped y in subst P same (all.0, all.1)
typed_as_at k (x ∷ ds) (suc i) d at all = typed_as_at k ds i d at all.2

-- a struct that is not empty
pub typed_struct : (ds : List Data) (r : Bool) → (length ds ≡ 0 → ⊥) → (IsTrue r ↔ AreWellTyped (items_of ds)) → (IsTrue r ↔ IsWellTyped (structure_data (items_of ds)))
typed_struct [] r some all = absurd (some refl)
typed_struct (d ∷ ds) r some all = all

-- all of one type
pub typed_if_as : (k : Kind) (ds : List Data) → AllHaveType k (items_of ds) → AreWellTyped (items_of ds)
typed_if_as k [] all = tt
typed_if_as k (d ∷ ds) all = (all.1, typed_if_as k ds all.2)

pub typed_as_none : (k : Kind) (ds : List Data) (r : Bool) → length ds ≡ 0 → r ≡ true → (IsTrue r ↔ AllHaveType k (items_of ds))
typed_as_none k [] r none e = (λ _. tt, λ _. e)
typed_as_none k (d ∷ ds) r none e = absurd (omega arith)

-- values of one type have another type where the two are the same
pub typed_as_other : (k l : Kind) (ds : List Data) (r : Bool) → AllHaveType l (items_of ds) → 0 < length ds → (IsTrue r ↔ (k ≡ l)) → (IsTrue r ↔ AllHaveType k (items_of ds))
typed_as_other k l [] r all some is = absurd (omega arith)
typed_as_other k l (d ∷ ds) r all some is = (λ t. let P : Kind → Type 0 = λ m. AllHaveType m (items_of (d ∷ ds)) in subst P (sym (is.0 t)) all, λ others. is.1 (sym others.0 ∙ all.0))

-- what is said of a type that there is
pub typed_if_plain : (o : Option Ty) (ds : List Data) → is_some o ≡ true → IfSome o (λ ty. AllHaveType (kind_of ty) (items_of ds)) → AreWellTyped (items_of ds)
typed_if_plain (Some ty) ds some all = typed_if_as (kind_of ty) ds all
typed_if_plain None ds some all = absurd cc

-- what each item becomes has the type
pub typed_as_map : {A : Type 0} (k : Kind) (f : A → Data) → ((x : A) → type_of (f x) ≡ k) → ((x : A) → IsWellTyped (f x)) → (xs : List A) → AllHaveType k (items_of (map f xs))
typed_as_map k f has one [] = tt
typed_as_map k f has one (x ∷ xs) = (has x, one x, typed_as_map k f has one xs)

-- pairs
pairs_push : (k v : Kind) (es : List (Data × Data)) (c d : Data) → AllHaveTypes k v (entries_of es) → type_of c ≡ k → type_of d ≡ v → IsWellTyped c → IsWellTyped d → AllHaveTypes k v (entries_of (es ++ (c, d) ∷ []))
pairs_push k v [] c d all p q m n = (p, q, m, n, tt)
pairs_push k v (e ∷ es) c d all p q m n = (all.0, all.1, all.2, all.3, pairs_push k v es c d all.4 p q m n)

pub pairs_more : (k v : Kind) (items : List (Value × Value)) (i : ℕ) (pair : Value × Value) → i < length items → pair ≡ get_or items i pair → AllHaveTypes k v (entries_of (map pair_of (take i items)))
    → (type_of (data_of pair.0) ≡ k) × IsWellTyped (data_of pair.0) → (type_of (data_of pair.1) ≡ v) × IsWellTyped (data_of pair.1) → AllHaveTypes k v (entries_of (map pair_of (take (i + 1) items)))
pairs_more k v items i pair lt is all one two =
    let e : map pair_of (take (i + 1) items) ≡ map pair_of (take i items) ++ pair_of pair ∷ [] =
    ap (map pair_of) (take_more items i pair lt) ∙ map-append pair_of (take i items) (get_or items i pair ∷ []) ∙ ap (λ (one : Value × Value). map pair_of (take i items) ++ pair_of one ∷ []) (sym is) in
    rw e (pairs_push k v (map pair_of (take i items)) (data_of pair.0) (data_of pair.1) all one.0 two.0 one.1 two.1)

pub pairs_at : (k v : Kind) (items : List (Value × Value)) (es : List (Data × Data)) (i : ℕ) (pair : Value × Value) → map pair_of items ≡ es → i < length items → pair ≡ get_or items i pair → AllHaveTypes k v (entries_of es)
    → ((type_of (data_of pair.0) ≡ k) × IsWellTyped (data_of pair.0)) × ((type_of (data_of pair.1) ≡ v) × IsWellTyped (data_of pair.1))
pairs_at k v items es i pair e lt is all = by items i lt is (let P : List (Data × Data) → Type 0 = λ ps. AllHaveTypes k v (entries_of ps) in subst P (sym e) all)
  where
    by : (xs : List (Value × Value)) (i : ℕ) → i < length xs → pair ≡ get_or xs i pair → AllHaveTypes k v (entries_of (map pair_of xs))
        → ((type_of (data_of pair.0) ≡ k) × IsWellTyped (data_of pair.0)) × ((type_of (data_of pair.1) ≡ v) × IsWellTyped (data_of pair.1))
    by [] i lt is all = absurd (omega arith)
    by (x ∷ xs) zero lt is all =
        let same : x ≡ pair = cc in
        let P : Value × Value → Type 0 = λ p. ((type_of (data_of p.0) ≡ k) × IsWellTyped (data_of p.0)) × ((type_of (data_of p.1) ≡ v) × IsWellTyped (data_of p.1)) in
        subst P same ((all.0, all.2), (all.1, all.3))
    by (x ∷ xs) (suc i) lt is all = by xs i (omega arith) is all.4
