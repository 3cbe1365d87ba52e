-- What the codes of a type are, and the parts of it that a getter takes.
use Rattle.std.proofs.Common.{◌≡◌, ℕ, ◌+◌, ◌-◌, ◌≤◌, ◌<◌, Bool, true, false, List, [], ◌∷◌, ◌++◌, length, get_or, take, drop, refl, sym, ap, ◌∙◌, length-append, arith}
use Rattle.std.specs.Prelude.{◌==◌, ◌↔◌}
use Rattle.std.proofs.lemmas.Bool.{eqb-true, eq-eqb, false≢true}
use Rattle.std.proofs.lemmas.List.{take_at, take_all, length-drop}
use Rattle.atspi_types.specs.Kinds.{Num, byte, i16, u16, i32, u32, i64, u64, double, Kind, number, boolean, text, path, signature, array, structure, variant, dictionary, no_kinds, kind, kinds_of, types_in, IsBasic, is_basic, alignment}
use Rattle.atspi_types.specs.Signatures.{number_code, type_bytes, signature_bytes, IsSignature}
use Rattle.atspi_types.proofs.DataLemmas.{kinds_of-types_in}
use Rattle.atspi_marshal_in_place.proofs.OfCodes.Spelled.{Spelled, one_is, one_again, all_again, of_types, of_array, of_struct, of_entry, has_codes, Next, next_is, none_spelled, all_is}
use Rattle.atspi_marshal_in_place.specs.codes.Codes.{kinds_at, spells, kind_at, head_code, leaf_of, code_is_basic, code_alignment, is_array, is_structure, is_dictionary, first_end}

-- two tests of one answer
pub same_answer : (a b : Bool) → a ≡ b → (a ≡ true) ↔ (b ≡ true)
same_answer a b e = (λ t. sym e ∙ t, λ t. e ∙ t)

-- the first code
pub heads : (k : Kind) → get_or (type_bytes k) 0 0 ≡ head_code k
heads (number n) = refl
heads boolean = refl
heads text = refl
heads path = refl
heads signature = refl
heads (array k) = refl
heads (structure ks) = refl
heads variant = refl
heads (dictionary k v) = refl

-- no number's code opens a container, and no type begins with an entry
record NoOpener (b : ℕ) : Type 0 where
  no_array : b ≡ 97 → ⊥
  no_struct : b ≡ 40 → ⊥
  no_entry : b ≡ 123 → ⊥

number_opens_none : (n : Num) → NoOpener (number_code n)
number_opens_none byte = record { no_array = λ e. omega (arith, e); no_struct = λ e. omega (arith, e); no_entry = λ e. omega (arith, e) }
number_opens_none i16 = record { no_array = λ e. omega (arith, e); no_struct = λ e. omega (arith, e); no_entry = λ e. omega (arith, e) }
number_opens_none u16 = record { no_array = λ e. omega (arith, e); no_struct = λ e. omega (arith, e); no_entry = λ e. omega (arith, e) }
number_opens_none i32 = record { no_array = λ e. omega (arith, e); no_struct = λ e. omega (arith, e); no_entry = λ e. omega (arith, e) }
number_opens_none u32 = record { no_array = λ e. omega (arith, e); no_struct = λ e. omega (arith, e); no_entry = λ e. omega (arith, e) }
number_opens_none i64 = record { no_array = λ e. omega (arith, e); no_struct = λ e. omega (arith, e); no_entry = λ e. omega (arith, e) }
number_opens_none u64 = record { no_array = λ e. omega (arith, e); no_struct = λ e. omega (arith, e); no_entry = λ e. omega (arith, e) }
number_opens_none double = record { no_array = λ e. omega (arith, e); no_struct = λ e. omega (arith, e); no_entry = λ e. omega (arith, e) }

no_type_is_an_entry : (k : Kind) → head_code k ≡ 123 → ⊥
no_type_is_an_entry (number n) e = (number_opens_none n).no_entry e
no_type_is_an_entry boolean e = omega (arith, e)
no_type_is_an_entry text e = omega (arith, e)
no_type_is_an_entry path e = omega (arith, e)
no_type_is_an_entry signature e = omega (arith, e)
no_type_is_an_entry (array k) e = omega (arith, e)
no_type_is_an_entry (structure ks) e = omega (arith, e)
no_type_is_an_entry variant e = omega (arith, e)
no_type_is_an_entry (dictionary k v) e = omega (arith, e)

-- parts of codes, as slices are seen
pub back_part : (n : ℕ) (xs : List ℕ) → take (length xs - n) (drop n xs) ≡ drop n xs
back_part n xs = take_all (length xs - n) (drop n xs) (omega (arith, length-drop n xs))

-- an array has an element's code behind its own; what is no dictionary is an array of what stands there
pub record ElementOf (rest : List ℕ) (k : Kind) : Type 0 where
  pub one : length (kinds_at rest) ≡ 1
  pub is : k ≡ array (kind_at rest)

abbrev HasSecond : List ℕ → Kind → Type 0
HasSecond codes k = get_or codes 0 0 ≡ 97 → 1 < length codes

second_of : (k : Kind) → IsSignature (kind k no_kinds) → HasSecond (type_bytes k) k
second_of (number n) s e = absurd ((number_opens_none n).no_array e)
second_of boolean s e = absurd (omega (arith, e))
second_of text s e = absurd (omega (arith, e))
second_of path s e = absurd (omega (arith, e))
second_of signature s e = absurd (omega (arith, e))
second_of (array k) s e = omega (arith, has_codes k)
second_of (structure ks) s e = absurd (omega (arith, e))
second_of variant s e = absurd (omega (arith, e))
second_of (dictionary k v) s e = omega arith

pub has_second : (codes : List ℕ) → length (kinds_at codes) ≡ 1 → get_or codes 0 0 ≡ 97 → 1 < length codes
has_second = of_types HasSecond second_of

abbrev Element : List ℕ → Kind → Type 0
Element codes k = get_or codes 0 0 ≡ 97 → (get_or codes 1 0 ≡ 123 → ⊥) → ElementOf (take (length codes - 1) (drop 1 codes)) k

element_of : (k : Kind) → IsSignature (kind k no_kinds) → Element (type_bytes k) k
element_of (number n) s e plain = absurd ((number_opens_none n).no_array e)
element_of boolean s e plain = absurd (omega (arith, e))
element_of text s e plain = absurd (omega (arith, e))
element_of path s e plain = absurd (omega (arith, e))
element_of signature s e plain = absurd (omega (arith, e))
element_of (array k) s e plain =
    let o = one_again (take (length (type_bytes (array k)) - 1) (type_bytes k)) k (back_part 1 (type_bytes (array k))) (of_array k s) in
    record { one = o.one; is = ap array (sym o.is) }
element_of (structure ks) s e plain = absurd (omega (arith, e))
element_of variant s e plain = absurd (omega (arith, e))
element_of (dictionary k v) s e plain = absurd (plain refl)

pub element_is : (codes : List ℕ) → length (kinds_at codes) ≡ 1 → get_or codes 0 0 ≡ 97 → (get_or codes 1 0 ≡ 123 → ⊥) → ElementOf (take (length codes - 1) (drop 1 codes)) (kind_at codes)
element_is = of_types Element element_of

abbrev NoElement : List ℕ → Kind → Type 0
NoElement codes k = (get_or codes 0 0 ≡ 97 → get_or codes 1 0 ≡ 123) → is_array k ≡ false

no_element_of : (k : Kind) → IsSignature (kind k no_kinds) → NoElement (type_bytes k) k
no_element_of (number n) s h = refl
no_element_of boolean s h = refl
no_element_of text s h = refl
no_element_of path s h = refl
no_element_of signature s h = refl
no_element_of (array k) s h = absurd (no_type_is_an_entry k (sym (heads k) ∙ h refl))
no_element_of (structure ks) s h = refl
no_element_of variant s h = refl
no_element_of (dictionary k v) s h = refl

pub no_element : (codes : List ℕ) → length (kinds_at codes) ≡ 1 → (get_or codes 0 0 ≡ 97 → get_or codes 1 0 ≡ 123) → is_array (kind_at codes) ≡ false
no_element = of_types NoElement no_element_of

-- the types between the first code of a struct and its last
pub record FieldsOf (codes rest : List ℕ) (k : Kind) : Type 0 where
  pub all : spells rest ≡ true
  pub is : k ≡ structure (kinds_of (kinds_at rest))
  pub long : 2 ≤ length codes

abbrev Fields : List ℕ → Kind → Type 0
Fields codes k = get_or codes 0 0 ≡ 40 → FieldsOf codes (take (length codes - 1 - 1) (drop 1 codes)) k

fields_of : (k : Kind) → IsSignature (kind k no_kinds) → Fields (type_bytes k) k
fields_of (number n) s e = absurd ((number_opens_none n).no_struct e)
fields_of boolean s e = absurd (omega (arith, e))
fields_of text s e = absurd (omega (arith, e))
fields_of path s e = absurd (omega (arith, e))
fields_of signature s e = absurd (omega (arith, e))
fields_of (array k) s e = absurd (omega (arith, e))
fields_of (structure ks) s e =
    let n = length (type_bytes (structure ks)) - 1 - 1 in
    let len : length (signature_bytes ks) ≡ n = omega (arith, length-append (signature_bytes ks) (41 ∷ [])) in
    let inner : take n (signature_bytes ks ++ 41 ∷ []) ≡ signature_bytes ks = take_at (signature_bytes ks) (41 ∷ []) n len in
    let again = all_again (take n (signature_bytes ks ++ 41 ∷ [])) (types_in ks) (record { bytes = inner ∙ ap signature_bytes (sym (kinds_of-types_in ks)); within = rw (kinds_of-types_in ks) (of_struct ks s) }) in
    record { all = again.0; is = ap structure (sym (ap kinds_of again.1 ∙ kinds_of-types_in ks)); long = omega (arith, length-append (signature_bytes ks) (41 ∷ [])) }
fields_of variant s e = absurd (omega (arith, e))
fields_of (dictionary k v) s e = absurd (omega (arith, e))

pub fields_are : (codes : List ℕ) → length (kinds_at codes) ≡ 1 → get_or codes 0 0 ≡ 40 → FieldsOf codes (take (length codes - 1 - 1) (drop 1 codes)) (kind_at codes)
fields_are = of_types Fields fields_of

abbrev NoFields : List ℕ → Kind → Type 0
NoFields codes k = (get_or codes 0 0 ≡ 40 → ⊥) → is_structure k ≡ false

no_fields_of : (k : Kind) → IsSignature (kind k no_kinds) → NoFields (type_bytes k) k
no_fields_of (number n) s h = refl
no_fields_of boolean s h = refl
no_fields_of text s h = refl
no_fields_of path s h = refl
no_fields_of signature s h = refl
no_fields_of (array k) s h = refl
no_fields_of (structure ks) s h = absurd (h refl)
no_fields_of variant s h = refl
no_fields_of (dictionary k v) s h = refl

pub no_fields : (codes : List ℕ) → length (kinds_at codes) ≡ 1 → (get_or codes 0 0 ≡ 40 → ⊥) → is_structure (kind_at codes) ≡ false
no_fields = of_types NoFields no_fields_of

-- the code of a key, and those of a value between it and the last
pub record EntryOf (codes key value : List ℕ) (k : Kind) : Type 0 where
  pub key_one : length (kinds_at key) ≡ 1
  pub value_one : length (kinds_at value) ≡ 1
  pub is : k ≡ dictionary (kind_at key) (kind_at value)
  pub long : 5 ≤ length codes

abbrev Entry : List ℕ → Kind → Type 0
Entry codes k = get_or codes 0 0 ≡ 97 → get_or codes 1 0 ≡ 123 → EntryOf codes (take 1 (drop 2 codes)) (take (length codes - 1 - 3) (drop 3 codes)) k

basic_code : (k : Kind) → IsBasic k → type_bytes k ≡ head_code k ∷ []
basic_code (number n) h = refl
basic_code boolean h = refl
basic_code text h = refl
basic_code path h = refl
basic_code signature h = refl
basic_code (array k) h = absurd h
basic_code (structure ks) h = absurd h
basic_code variant h = absurd h
basic_code (dictionary k v) h = absurd h

basic_alone : (k v : Kind) → IsBasic k → IsSignature (kind (dictionary k v) no_kinds) → IsSignature (kind k no_kinds)
basic_alone (number n) v h s = record { lawful = (tt, tt); fits = record { short = omega arith; arrays = omega arith; structs = omega arith } }
basic_alone boolean v h s = record { lawful = (tt, tt); fits = record { short = omega arith; arrays = omega arith; structs = omega arith } }
basic_alone text v h s = record { lawful = (tt, tt); fits = record { short = omega arith; arrays = omega arith; structs = omega arith } }
basic_alone path v h s = record { lawful = (tt, tt); fits = record { short = omega arith; arrays = omega arith; structs = omega arith } }
basic_alone signature v h s = record { lawful = (tt, tt); fits = record { short = omega arith; arrays = omega arith; structs = omega arith } }
basic_alone (array k) v h s = absurd h
basic_alone (structure ks) v h s = absurd h
basic_alone variant v h s = absurd h
basic_alone (dictionary k w) v h s = absurd h

entry_parts : (key : List ℕ) (k v : Kind) → type_bytes k ≡ key → IsBasic k → key ≡ head_code k ∷ [] → IsSignature (kind (dictionary k v) no_kinds)
    → EntryOf (type_bytes (dictionary k v)) (take 1 (key ++ (type_bytes v ++ 125 ∷ []))) (take (length (type_bytes (dictionary k v)) - 1 - 3) (drop 1 (key ++ (type_bytes v ++ 125 ∷ [])))) (dictionary k v)
entry_parts key k v spelled basic single s =
    let parts = of_entry k v s in
    let len : length (type_bytes (dictionary k v)) ≡ 4 + length (type_bytes v) = omega (arith, ap length spelled, ap length single, length-append (type_bytes k) (type_bytes v ++ 125 ∷ []), length-append (type_bytes v) (125 ∷ [])) in
    let n = length (type_bytes (dictionary k v)) - 1 - 3 in
    let value : take n (type_bytes v ++ 125 ∷ []) ≡ type_bytes v = take_at (type_bytes v) (125 ∷ []) n (omega (arith, len)) in
    let first = one_again (head_code k ∷ []) k (sym single ∙ sym spelled) (basic_alone k v basic s) in
    let second = one_again (take n (type_bytes v ++ 125 ∷ [])) v value parts.1 in
    rw single (record { key_one = first.one; value_one = second.one; is = both (sym first.is) (sym second.is); long = omega (arith, len, has_codes v) })
  where
    both : {j k l m : Kind} → j ≡ k → l ≡ m → dictionary j l ≡ dictionary k m
    both p q = cc

entry_of : (k : Kind) → IsSignature (kind k no_kinds) → Entry (type_bytes k) k
entry_of (number n) s e h = absurd ((number_opens_none n).no_array e)
entry_of boolean s e h = absurd (omega (arith, e))
entry_of text s e h = absurd (omega (arith, e))
entry_of path s e h = absurd (omega (arith, e))
entry_of signature s e h = absurd (omega (arith, e))
entry_of (array k) s e h = absurd (no_type_is_an_entry k (sym (heads k) ∙ h))
entry_of (structure ks) s e h = absurd (omega (arith, e))
entry_of variant s e h = absurd (omega (arith, e))
entry_of (dictionary k v) s e h = entry_parts (type_bytes k) k v refl (of_entry k v s).0 (basic_code k (of_entry k v s).0) s

pub entry_is : (codes : List ℕ) → length (kinds_at codes) ≡ 1 → get_or codes 0 0 ≡ 97 → get_or codes 1 0 ≡ 123 → EntryOf codes (take 1 (drop 2 codes)) (take (length codes - 1 - 3) (drop 3 codes)) (kind_at codes)
entry_is = of_types Entry entry_of

abbrev NoEntry : List ℕ → Kind → Type 0
NoEntry codes k = (get_or codes 0 0 ≡ 97 → get_or codes 1 0 ≡ 123 → ⊥) → is_dictionary k ≡ false

no_entry_of : (k : Kind) → IsSignature (kind k no_kinds) → NoEntry (type_bytes k) k
no_entry_of (number n) s h = refl
no_entry_of boolean s h = refl
no_entry_of text s h = refl
no_entry_of path s h = refl
no_entry_of signature s h = refl
no_entry_of (array k) s h = refl
no_entry_of (structure ks) s h = refl
no_entry_of variant s h = refl
no_entry_of (dictionary k v) s h = absurd (h refl refl)

pub no_entry : (codes : List ℕ) → length (kinds_at codes) ≡ 1 → (get_or codes 0 0 ≡ 97 → get_or codes 1 0 ≡ 123 → ⊥) → is_dictionary (kind_at codes) ≡ false
no_entry = of_types NoEntry no_entry_of

-- the first code
pub head_of : (codes : List ℕ) → length (kinds_at codes) ≡ 1 → get_or codes 0 0 ≡ head_code (kind_at codes)
head_of codes h = ap (λ (bs : List ℕ). get_or bs 0 0) (one_is codes h).bytes ∙ heads (kind_at codes)

pub one_has_codes : (codes : List ℕ) → length (kinds_at codes) ≡ 1 → 0 < length codes
one_has_codes codes h = omega (arith, has_codes (kind_at codes), ap length (one_is codes h).bytes)

pub leaf_is : (k : Kind) (b : ℕ) → b ≡ head_code k → (b ≡ 97 → ⊥) → (b ≡ 40 → ⊥) → k ≡ leaf_of b
leaf_is (number byte) b e a s = rw e refl
leaf_is (number i16) b e a s = rw e refl
leaf_is (number u16) b e a s = rw e refl
leaf_is (number i32) b e a s = rw e refl
leaf_is (number u32) b e a s = rw e refl
leaf_is (number i64) b e a s = rw e refl
leaf_is (number u64) b e a s = rw e refl
leaf_is (number double) b e a s = rw e refl
leaf_is boolean b e a s = rw e refl
leaf_is text b e a s = rw e refl
leaf_is path b e a s = rw e refl
leaf_is signature b e a s = rw e refl
leaf_is (array k) b e a s = absurd (a e)
leaf_is (structure ks) b e a s = absurd (s e)
leaf_is variant b e a s = rw e refl
leaf_is (dictionary k v) b e a s = absurd (a e)

-- a type that is no container is told by its code
pub leaf_alone : (k : Kind) → is_array k ≡ false → is_structure k ≡ false → is_dictionary k ≡ false → leaf_of (head_code k) ≡ k
leaf_alone (number byte) a s d = refl
leaf_alone (number i16) a s d = refl
leaf_alone (number u16) a s d = refl
leaf_alone (number i32) a s d = refl
leaf_alone (number u32) a s d = refl
leaf_alone (number i64) a s d = refl
leaf_alone (number u64) a s d = refl
leaf_alone (number double) a s d = refl
leaf_alone boolean a s d = refl
leaf_alone text a s d = refl
leaf_alone path a s d = refl
leaf_alone signature a s d = refl
leaf_alone (array k) a s d = absurd (false≢true (sym a))
leaf_alone (structure ks) a s d = absurd (false≢true (sym s))
leaf_alone variant a s d = refl
leaf_alone (dictionary k v) a s d = absurd (false≢true (sym d))

-- several types
pub some_codes : (codes : List ℕ) → (length codes == 0) ≡ false → 0 < length codes
some_codes [] e = absurd cc
some_codes (b ∷ codes) e = omega arith

pub next_here : (codes : List ℕ) (n : ℕ) → spells codes ≡ true → (length codes == 0) ≡ false → n ≡ first_end 0 codes → Next codes (take n codes) (take (length codes - n) (drop n codes)) × (n ≤ length codes)
next_here codes n h e f =
    let t = next_is codes h (some_codes codes e) in
    (rw (back_part n codes, f) t, omega (arith, f, t.end))

pub no_codes : (codes : List ℕ) → spells codes ≡ true → length (kinds_at codes) ≡ 0 → length codes ≡ 0
no_codes codes h e = by (kinds_at codes) (all_is codes h) e
  where
    by : (ks : List Kind) → Spelled codes ks → length ks ≡ 0 → length codes ≡ 0
    by [] s e = ap length s.bytes
    by (k ∷ ks) s e = absurd (omega (arith, e))

-- there are no types exactly where there is no code
pub emptiness : (codes : List ℕ) → spells codes ≡ true → ((length codes == 0) ≡ true) ↔ (kinds_at codes ≡ [])
emptiness codes h = (λ e. none_spelled codes h (eqb-true (length codes) 0 e), λ e. eq-eqb (length codes) 0 (no_codes codes h (ap length e)))

-- one type alone has all of the codes
pub alone_is : (codes : List ℕ) → spells codes ≡ true → 0 < length codes → first_end 0 codes ≡ length codes → length (kinds_at codes) ≡ 1
alone_is codes h lt e =
    let t = next_is codes h lt in
    let none = none_spelled (drop (first_end 0 codes) codes) t.all (omega (arith, length-drop (first_end 0 codes) codes, e)) in
    omega (arith, ap length t.kinds, ap length none)

pub alone_only : (codes : List ℕ) → spells codes ≡ true → 0 < length codes → length (kinds_at codes) ≡ 1 → first_end 0 codes ≡ length codes
alone_only codes h lt e =
    let t = next_is codes h lt in
    let none = no_codes (drop (first_end 0 codes) codes) t.all (omega (arith, e, ap length t.kinds)) in
    omega (arith, length-drop (first_end 0 codes) codes, none, t.end)

-- what the first code tells
pub basic_by_code : (k : Kind) → code_is_basic (head_code k) ≡ is_basic k
basic_by_code (number byte) = refl
basic_by_code (number i16) = refl
basic_by_code (number u16) = refl
basic_by_code (number i32) = refl
basic_by_code (number u32) = refl
basic_by_code (number i64) = refl
basic_by_code (number u64) = refl
basic_by_code (number double) = refl
basic_by_code boolean = refl
basic_by_code text = refl
basic_by_code path = refl
basic_by_code signature = refl
basic_by_code (array k) = refl
basic_by_code (structure ks) = refl
basic_by_code variant = refl
basic_by_code (dictionary k v) = refl

pub alignment_by_code : (k : Kind) → code_alignment (head_code k) ≡ alignment k
alignment_by_code (number byte) = refl
alignment_by_code (number i16) = refl
alignment_by_code (number u16) = refl
alignment_by_code (number i32) = refl
alignment_by_code (number u32) = refl
alignment_by_code (number i64) = refl
alignment_by_code (number u64) = refl
alignment_by_code (number double) = refl
alignment_by_code boolean = refl
alignment_by_code text = refl
alignment_by_code path = refl
alignment_by_code signature = refl
alignment_by_code (array k) = refl
alignment_by_code (structure ks) = refl
alignment_by_code variant = refl
alignment_by_code (dictionary k v) = refl

-- types are the same exactly where their codes are
pub same_codes : (codes others : List ℕ) → length (kinds_at codes) ≡ 1 → length (kinds_at others) ≡ 1 → (codes ≡ others) ↔ (kind_at codes ≡ kind_at others)
same_codes codes others h g = (λ e. ap kind_at e, λ e. (one_is codes h).bytes ∙ (ap type_bytes e ∙ sym (one_is others g).bytes))

-- no codes spell no types
pub nothing_spelled : (spells [] ≡ true) × (kinds_at [] ≡ [])
nothing_spelled = all_again [] [] (record { bytes = refl; within = record { lawful = tt; fits = record { short = omega arith; arrays = omega arith; structs = omega arith } } })
