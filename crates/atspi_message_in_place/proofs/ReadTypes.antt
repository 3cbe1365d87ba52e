-- What is read has the type that was asked for, so the values of a body have the types that its signature names.
use Rattle.std.proofs.Common.{◌≡◌, ℕ, zero, suc, ◌+◌, ◌<◌, Bool, true, false, List, [], ◌∷◌, length, Result, Ok, Err, refl, ap, ◌∙◌, arith}
use Rattle.std.specs.Prelude.{IsTrue, ◌==◌, ◌&&◌, nat_lt, if◌then◌else◌}
use Rattle.std.specs.Int.{w32, byte_len}
use Rattle.atspi_base.specs.ReadsText.{text_in}
use Rattle.atspi_base.specs.declared.text.TextFault.{TextFault}
use Rattle.atspi_base.specs.declared.text.TextFault.TheVariants.{Zero, Utf8}
use Rattle.atspi_base.specs.declared.text.TextFault.TheVariants.{NoMemory as TextNoMemory}
use Rattle.atspi_base.specs.valid_names.Names.{is_path}
use Rattle.atspi_types.specs.Kinds.{Num, width, number_alignment, Kind, Kinds, number, boolean, text, path, signature, array, structure, variant, dictionary, kinds_of, types_in, alignment}
use Rattle.atspi_types.specs.Data.{Data, number_data, boolean_data, text_data, path_data, signature_data, array_data, structure_data, dictionary_data, variant_data, items_of, type_of, types_of}
use Rattle.atspi_types.specs.SignatureReading.{signature_in}
use Rattle.atspi_types.proofs.DataLemmas.{kinds_of-types_in}
use Rattle.atspi_types.specs.declared.fault.Fault.{Fault}
use Rattle.atspi_marshal.specs.declared.input.Bound.{Bound}
use Rattle.atspi_marshal.specs.Input.{Input, number_in, byte_in}
use Rattle.atspi_marshal.specs.Faults.{entry_kind, inside, long_in, short_in}
use Rattle.atspi_marshal.specs.Reading.{◌>>=◌, bad, Reader, ended, padding_at, room_at, number_at, boolean_at, text_with, text_body_at, path_body_at, long_place, long_at, short_place, short_at, signature_with, signature_body_at, as_variant, inner_at, variant_with, variant_body_at, elements_at, as_array, array_body_at, array_place, unless_deep, array_at, as_dictionary, dictionary_body_at, dictionary_at, nothing, single_at, fields_first, fields_at, as_structure, first_in, deep_at, structure_at, level, read}
use Rattle.atspi_marshal_in_place.specs.Known.{is_read, read_data, read_fields}
use Rattle.atspi_marshal_in_place.specs.Passing.{read_all}

-- what was read is of the type
abbrev HasType : Kind → Result (Data × ℕ) Fault → Type 0
HasType k (Ok x) = type_of x.0 ≡ k
HasType k (Err f) = Unit {0}

abbrev HaveTypes : List Kind → Result (List Data × ℕ) Fault → Type 0
HaveTypes ks (Ok x) = types_of (items_of x.0) ≡ kinds_of ks
HaveTypes ks (Err f) = Unit {0}

either : (k : Kind) (t : Bool) (r s : Result (Data × ℕ) Fault) → HasType k r → HasType k s → HasType k (if t then r else s)
either k true r s a b = a
either k false r s a b = b

-- whatever was read before
behind : {A : Type 0} (k : Kind) (m : Result A Fault) (f : A → Result (Data × ℕ) Fault) → ((a : A) → HasType k (f a)) → HasType k (m >>= f)
behind k (Ok a) f h = h a
behind k (Err e) f h = tt

ended_has : (k : Kind) (i : Input) (at : ℕ) (d : Data) → type_of d ≡ k → HasType k (ended i at d)
ended_has k i at d e = either k (byte_in i at == 0) (Ok (d, at + 1)) (bad at 12) e tt

number_has : (i : Input) (n : Num) (b : Bound) (at : ℕ) → HasType (number n) (number_at i n b at)
unfolding number_at
number_has i n b at = behind (number n) (room_at i (number_alignment n) (byte_len (width n)) b at) (λ (p : ℕ). Ok (number_data n (number_in i (width n) p), p + byte_len (width n))) (λ (p : ℕ). refl)

boolean_has : (i : Input) (b : Bound) (at : ℕ) → HasType boolean (boolean_at i b at)
unfolding boolean_at
boolean_has i b at =
    behind boolean (room_at i 4 4 b at) (λ (p : ℕ). if nat_lt 1 (number_in i w32 p) then bad p 11 else Ok (boolean_data (number_in i w32 p == 1), p + 4))
    (λ (p : ℕ). either boolean (nat_lt 1 (number_in i w32 p)) (bad p 11) (Ok (boolean_data (number_in i w32 p == 1), p + 4)) tt refl)

text_with_has : (i : Input) (p n : ℕ) (r : Result (List ℕ) TextFault) → HasType text (text_with i p n r)
text_with_has i p n (Ok cs) = ended_has text i (p + 4 + n) (text_data cs) refl
text_with_has i p n (Err (Zero z)) = tt
text_with_has i p n (Err (Utf8 z)) = tt
text_with_has i p n (Err TextNoMemory) = tt

text_body_has : (i : Input) (p : ℕ) → HasType text (text_body_at i p)
unfolding text_body_at
text_body_has i p = text_with_has i p (number_in i w32 p) (text_in (long_in i p))

path_body_has : (i : Input) (p : ℕ) → HasType path (path_body_at i p)
unfolding path_body_at
path_body_has i p =
    either path (is_path (long_in i p)) (ended i (p + 4 + number_in i w32 p) (path_data (long_in i p))) (bad p 15) (ended_has path i (p + 4 + number_in i w32 p) (path_data (long_in i p)) refl) tt

long_has : (k : Kind) (body : ℕ → Result (Data × ℕ) Fault) (i : Input) (b : Bound) (at : ℕ) → ((p : ℕ) → HasType k (body p)) → HasType k (long_at body i b at)
unfolding long_at
long_has k body i b at h = behind k (long_place i b at) body h

short_has : (k : Kind) (body : ℕ → Result (Data × ℕ) Fault) (i : Input) (b : Bound) (at : ℕ) → ((p : ℕ) → HasType k (body p)) → HasType k (short_at body i b at)
unfolding short_at
short_has k body i b at h = behind k (short_place i b at) body h

signature_with_has : (i : Input) (p : ℕ) (r : Result (List Kind) Fault) → HasType signature (signature_with i p r)
signature_with_has i p (Ok ks) = ended_has signature i (p + 1 + byte_in i p) (signature_data (kinds_of ks)) refl
signature_with_has i p (Err f) = tt

signature_body_has : (i : Input) (p : ℕ) → HasType signature (signature_body_at i p)
unfolding signature_body_at
signature_body_has i p = signature_with_has i p (signature_in (short_in i p))

inner_has : (deep : Bool) (below : Reader) (i : Input) (b : Bound) (p : ℕ) (k : Kind) → HasType variant (inner_at deep below i b p k)
unfolding inner_at
inner_has deep below i b p k =
    let n = byte_in i p in
    let inner : Result (Data × ℕ) Fault = below k b (p + 2 + n) >>= as_variant k in
    let ends : Result (Data × ℕ) Fault = if byte_in i (p + 1 + n) == 0 then inner else bad (p + 1 + n) 12 in
    either variant deep (bad p 20) ends tt (either variant (byte_in i (p + 1 + n) == 0) inner (bad (p + 1 + n) 12) (behind variant (below k b (p + 2 + n)) (as_variant k) (λ (x : Data × ℕ). refl)) tt)

variant_with_has : (deep : Bool) (below : Reader) (i : Input) (b : Bound) (p : ℕ) (r : Result (List Kind) Fault) → HasType variant (variant_with deep below i b p r)
variant_with_has deep below i b p (Ok []) = tt
variant_with_has deep below i b p (Ok (k ∷ [])) = inner_has deep below i b p k
variant_with_has deep below i b p (Ok (k ∷ j ∷ ks)) = tt
variant_with_has deep below i b p (Err f) = either variant deep (bad p 20) (bad (p + 1 + f.place) f.reason) tt tt

variant_body_has : (deep : Bool) (below : Reader) (i : Input) (b : Bound) (p : ℕ) → HasType variant (variant_body_at deep below i b p)
unfolding variant_body_at
variant_body_has deep below i b p = variant_with_has deep below i b p (signature_in (short_in i p))

deep_or : (k : Kind) (deep : Bool) (body : ℕ → Result (Data × ℕ) Fault) (p : ℕ) → HasType k (body p) → HasType k (unless_deep deep body p)
deep_or k deep body p h = either k deep (bad p 20) (body p) tt h

array_body_has : (below : Reader) (i : Input) (k : Kind) (p : ℕ) → HasType (array k) (array_body_at below i k p)
unfolding array_body_at
array_body_has below i k p =
    let n = number_in i w32 p in
    let b = inside k p n in
    behind (array k) (padding_at i (alignment k) b (p + 4)) (λ (s : ℕ). elements_at (below k b) b.end n s >>= as_array k b.end)
    (λ (s : ℕ). behind (array k) (elements_at (below k b) b.end n s) (as_array k b.end) (λ (ds : List Data). refl))

array_has : (deep : Bool) (below : Reader) (i : Input) (k : Kind) (b : Bound) (at : ℕ) → HasType (array k) (array_at deep below i k b at)
unfolding array_at
array_has deep below i k b at =
    behind (array k) (array_place i (alignment k) b at) (unless_deep deep (array_body_at below i k)) (λ (p : ℕ). deep_or (array k) deep (array_body_at below i k) p (array_body_has below i k p))

-- an array of structs of two is the dictionary
as_dictionary_has : (k v e : Kind) (r : Result (Data × ℕ) Fault) → HasType (array e) r → HasType (dictionary k v) (r >>= as_dictionary k v)
as_dictionary_has k v e (Ok (number_data m x, next)) h = absurd cc
as_dictionary_has k v e (Ok (boolean_data x, next)) h = absurd cc
as_dictionary_has k v e (Ok (text_data x, next)) h = absurd cc
as_dictionary_has k v e (Ok (path_data x, next)) h = absurd cc
as_dictionary_has k v e (Ok (signature_data x, next)) h = absurd cc
as_dictionary_has k v e (Ok (array_data j ds, next)) h = refl
as_dictionary_has k v e (Ok (structure_data ds, next)) h = absurd cc
as_dictionary_has k v e (Ok (dictionary_data j w es, next)) h = absurd cc
as_dictionary_has k v e (Ok (variant_data j d, next)) h = absurd cc
as_dictionary_has k v e (Err f) h = tt

dictionary_has : (deep : Bool) (below : Reader) (i : Input) (k v : Kind) (b : Bound) (at : ℕ) → HasType (dictionary k v) (dictionary_at deep below i k v b at)
unfolding dictionary_at
dictionary_has deep below i k v b at =
    behind (dictionary k v) (array_place i 8 b at) (unless_deep deep (dictionary_body_at below i k v))
    (λ (p : ℕ). deep_or (dictionary k v) deep (dictionary_body_at below i k v) p (as_dictionary_has k v (entry_kind k v) (array_body_at below i (entry_kind k v) p) (array_body_has below i (entry_kind k v) p)))

-- fields, one behind the other
later_fields : (k : Kind) (ks : List Kind) (d : Data) → type_of d ≡ k → (r : Result (List Data × ℕ) Fault) → HaveTypes ks r → HaveTypes (k ∷ ks) (r >>= fields_first d)
later_fields k ks d e (Ok x) h = rw (e, h) refl
later_fields k ks d e (Err f) h = tt

first_field : (k : Kind) (ks : List Kind) (r : Result (Data × ℕ) Fault) (rest : (Data × ℕ) → Result (List Data × ℕ) Fault) → HasType k r → ((x : Data × ℕ) → HaveTypes ks (rest x)) → HaveTypes (k ∷ ks) (r >>= λ (x : Data × ℕ). rest x >>= fields_first x.0)
first_field k ks (Ok x) rest e h = later_fields k ks x.0 e (rest x) (h x)
first_field k ks (Err f) rest e h = tt

fields_have : (field : Kind → ℕ → Result (Data × ℕ) Fault) → ((k : Kind) (q : ℕ) → HasType k (field k q)) → (ks : List Kind) (at : ℕ) → HaveTypes ks (fields_at field ks at)
fields_have field h [] at = refl
fields_have field h (k ∷ ks) at = first_field k ks (field k at) (λ (x : Data × ℕ). fields_at field ks x.1) (h k at) (λ (x : Data × ℕ). fields_have field h ks x.1)

as_structure_has : (ks : List Kind) (r : Result (List Data × ℕ) Fault) → HaveTypes ks r → HasType (structure (kinds_of ks)) (r >>= as_structure)
as_structure_has ks (Ok x) h = ap structure h
as_structure_has ks (Err f) h = tt

deep_has : (k : Kind) (p : ℕ) (r : Result (Data × ℕ) Fault) → HasType k (deep_at p r)
deep_has k p (Ok x) = tt
deep_has k p (Err f) = either k (nat_lt f.reason 20 && f.place == p) (Err f) (bad p 20) tt tt

structure_has : (deep : Bool) (below : Reader) (i : Input) (ks : List Kind) (b : Bound) (at : ℕ) → ((k : Kind) (c : Bound) (q : ℕ) → HasType k (below k c q)) → HasType (structure (kinds_of ks)) (structure_at deep below i ks b at)
unfolding structure_at
structure_has deep below i ks b at h =
    behind (structure (kinds_of ks)) (padding_at i 8 b at) (λ (p : ℕ). if deep then deep_at p (single_at true below i (first_in ks) b p) else (fields_at (λ (k : Kind) (q : ℕ). below k b q) ks p >>= as_structure))
    (λ (p : ℕ). either (structure (kinds_of ks)) deep (deep_at p (single_at true below i (first_in ks) b p)) (fields_at (λ (k : Kind) (q : ℕ). below k b q) ks p >>= as_structure)
    (deep_has (structure (kinds_of ks)) p (single_at true below i (first_in ks) b p))
    (as_structure_has ks (fields_at (λ (k : Kind) (q : ℕ). below k b q) ks p) (fields_have (λ (k : Kind) (q : ℕ). below k b q) (λ (k : Kind) (q : ℕ). h k b q) ks p)))

of_same : (ks js : Kinds) (r : Result (Data × ℕ) Fault) → ks ≡ js → HasType (structure ks) r → HasType (structure js) r
of_same ks js (Ok x) e h = h ∙ ap structure e
of_same ks js (Err f) e h = tt

level_has : (deep : Bool) (below : Reader) (i : Input) → ((k : Kind) (c : Bound) (q : ℕ) → HasType k (below k c q)) → (k : Kind) (b : Bound) (at : ℕ) → HasType k (level deep below i k b at)
unfolding level single_at
level_has deep below i h (number n) b at = number_has i n b at
level_has deep below i h boolean b at = boolean_has i b at
level_has deep below i h text b at = long_has text (text_body_at i) i b at (text_body_has i)
level_has deep below i h path b at = long_has path (path_body_at i) i b at (path_body_has i)
level_has deep below i h signature b at = short_has signature (signature_body_at i) i b at (signature_body_has i)
level_has deep below i h (array k) b at = array_has deep below i k b at
level_has deep below i h (structure ks) b at = of_same (kinds_of (types_in ks)) ks (structure_at deep below i (types_in ks) b at) (kinds_of-types_in ks) (structure_has deep below i (types_in ks) b at h)
level_has deep below i h variant b at = short_has variant (variant_body_at deep below i b) i b at (variant_body_has deep below i b)
level_has deep below i h (dictionary k v) b at = dictionary_has deep below i k v b at

read_has : (i : Input) (levels : ℕ) (k : Kind) (b : Bound) (at : ℕ) → HasType k (read i levels k b at)
unfolding read
read_has i zero k b at = level_has true nothing i (λ (j : Kind) (c : Bound) (q : ℕ). tt) k b at
read_has i (suc levels) k b at = level_has false (read i levels) i (read_has i levels) k b at

-- a value that was read has the type
of_one : (k : Kind) (r : Result (Data × ℕ) Fault) → HasType k r → IsTrue (is_read r) → type_of (read_data r) ≡ k
of_one k (Ok x) h known = h
of_one k (Err f) h known = absurd cc

pub item_type : (i : Input) (levels : ℕ) (k : Kind) (b : Bound) (at : ℕ) → IsTrue (is_read (read i levels k b at)) → type_of (read_data (read i levels k b at)) ≡ k
item_type i levels k b at known = of_one k (read i levels k b at) (read_has i levels k b at) known

-- values that were read have the types
of_read : (ks : List Kind) (r : Result (List Data × ℕ) Fault) → HaveTypes ks r → IsTrue (is_read r) → types_of (items_of (read_fields r)) ≡ kinds_of ks
of_read ks (Ok x) h known = h
of_read ks (Err f) h known = absurd cc

pub fields_types : (i : Input) (levels : ℕ) (ks : List Kind) (b : Bound) (at : ℕ) → IsTrue (is_read (read_all i levels ks b at)) → types_of (items_of (read_fields (read_all i levels ks b at))) ≡ kinds_of ks
fields_types i levels ks b at known = of_read ks (read_all i levels ks b at) (fields_have (λ (k : Kind) (q : ℕ). read i levels k b q) (λ (k : Kind) (q : ℕ). read_has i levels k b q) ks at) known

-- so none where there are no types, and some where there are
pub no_types : (ds : List Data) (ks : List Kind) → types_of (items_of ds) ≡ kinds_of ks → ks ≡ [] → ds ≡ []
no_types [] ks e none = refl
no_types (d ∷ ds) ks e none = (let clash = e ∙ ap kinds_of none in absurd cc)

pub some_types : (ds : List Data) (ks : List Kind) → types_of (items_of ds) ≡ kinds_of ks → (ks ≡ [] → ⊥) → 0 < length ds
some_types (d ∷ ds) ks e some = omega arith
some_types [] [] e some = absurd (some refl)
some_types [] (k ∷ ks) e some = absurd cc
