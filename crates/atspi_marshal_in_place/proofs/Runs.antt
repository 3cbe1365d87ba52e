-- Numbers one after the other: their length alone tells whether the last is whole.
use Rattle.std.proofs.Common.{◌≡◌, ℕ, zero, suc, ◌+◌, ◌-◌, ◌%◌, ◌<◌, ◌≤◌, Bool, true, false, cond, ltb, List, Result, Ok, refl, sym, ap, ◌∙◌, arith}
use Rattle.std.specs.Int.{byte_len}
use Rattle.std.specs.Prelude.{◌==◌}
use Rattle.std.proofs.Math.Dec.{eqb-suc-zero}
use Rattle.std.proofs.lemmas.Bool.{lt-ltb, le-ltb, ltb-true, ltb-false}
use Rattle.atspi_types.specs.Kinds.{Num, byte, i16, u16, i32, u32, i64, u64, double, width, number_alignment, Kind, number, boolean, text, path, signature, array, structure, variant, dictionary, kinds_of, alignment}
use Rattle.atspi_types.specs.declared.fault.Fault.{Fault}
use Rattle.atspi_marshal_in_place.specs.codes.Codes.{head_code, leaf_of}
use Rattle.atspi_marshal.specs.declared.input.Bound.{Bound}
use Rattle.atspi_marshal.specs.Input.{Input, aligned}
use Rattle.atspi_marshal.specs.Reading.{bad, room_at, number_at, elements_at, long_at, text_body_at, path_body_at, structure_at, single_at, level, read}
use Rattle.atspi_marshal.proofs.Levels.{read_is, types_in-kinds_of}
use Rattle.atspi_marshal_in_place.specs.Passing.{after, up_to, fixed_at, number_len, numbers_at}
use Rattle.atspi_marshal_in_place.proofs.Passes.{One, by_one, none_by, number_fixed, no_padding}

-- what is known of the rests by a number
record Turns (s : ℕ) : Type 0 where
  pub some : 0 < s
  pub small : (m : ℕ) → m < s → m % s ≡ m
  pub back : (m : ℕ) → s ≤ m → (m - s) % s ≡ m % s
  pub on : (at : ℕ) → at % s ≡ 0 → (at + s) % s ≡ 0
  pub stands : (at : ℕ) → aligned s at % s ≡ 0

turns_1 : Turns 1
turns_1 = record { some = omega arith; small = λ m lt. omega arith; back = λ m le. omega arith; on = λ at e. omega arith; stands = λ at. omega arith }

turns_2 : Turns 2
turns_2 = record { some = omega arith; small = λ m lt. omega arith; back = λ m le. omega arith; on = λ at e. omega arith; stands = λ at. omega arith }

turns_4 : Turns 4
turns_4 = record { some = omega arith; small = λ m lt. omega arith; back = λ m le. omega arith; on = λ at e. omega arith; stands = λ at. omega arith }

turns_8 : Turns 8
turns_8 = record { some = omega arith; small = λ m lt. omega arith; back = λ m le. omega arith; on = λ at e. omega arith; stands = λ at. omega arith }

turns : (n : Num) → Turns (number_alignment n)
turns byte = turns_1
turns i16 = turns_2
turns u16 = turns_2
turns i32 = turns_4
turns u32 = turns_4
turns i64 = turns_8
turns u64 = turns_8
turns double = turns_8

-- one number: it is whole, or cut off
fixed_here : (i : Input) (s : ℕ) (b : Bound) (at : ℕ) → at % s ≡ 0 → at + s ≤ b.end → fixed_at i s b at ≡ Ok (at + s)
unfolding fixed_at room_at
fixed_here i s b at e le = rw (no_padding i s b at e (omega (arith, le)), le-ltb b.end (at + s) le) refl

fixed_cut : (i : Input) (s : ℕ) (b : Bound) (at : ℕ) → at % s ≡ 0 → at ≤ b.end → b.end < at + s → fixed_at i s b at ≡ bad at b.reason
unfolding fixed_at room_at
fixed_cut i s b at e le lt = rw (no_padding i s b at e le, lt-ltb b.end (at + s) lt) refl

-- one number more
one_more : (one : One) (s : ℕ) (b : Bound) (t : Turns s) (fuel m at : ℕ) → at < b.end → s ≤ m → after (one at) ≡ Ok (at + s)
    → up_to b.end (elements_at one b.end fuel (at + s)) ≡ numbers_at s (m - s) b.end → up_to b.end (elements_at one b.end (suc fuel) at) ≡ numbers_at s m b.end
one_more one s b t fuel m at lt le passed rest =
    let first : up_to b.end (elements_at one b.end (suc fuel) at) ≡ up_to b.end (elements_at one b.end fuel (at + s)) = rw (lt-ltb at b.end lt) (by_one one b.end fuel (at + s) (one at) passed) in
    first ∙ rest ∙ ap (λ (r : ℕ). cond (r == 0) (Ok b.end) (bad (b.end - r) 18)) (t.back m le)

cut : (one : One) (s : ℕ) (b : Bound) (t : Turns s) (fuel m at : ℕ) → at + suc m ≡ b.end → suc m < s → after (one at) ≡ bad at 18
    → up_to b.end (elements_at one b.end (suc fuel) at) ≡ numbers_at s (suc m) b.end
cut one s b t fuel m at e lt refused =
    let place : b.end - suc m ≡ at = omega (arith, e) in
    let first : up_to b.end (elements_at one b.end (suc fuel) at) ≡ bad at 18 = rw (lt-ltb at b.end (omega (arith, e))) (none_by one b.end fuel (record { place = at; reason = 18 }) (one at) refused) in
    let last : numbers_at s (suc m) b.end ≡ bad at 18 = rw (t.small (suc m) lt, eqb-suc-zero m, place) refl in
    first ∙ sym last

none_left : (one : One) (s : ℕ) (b : Bound) (t : Turns s) (fuel at : ℕ) → at + 0 ≡ b.end → up_to b.end (elements_at one b.end fuel at) ≡ numbers_at s 0 b.end
none_left one s b t zero at e = rw (t.small 0 t.some) refl
none_left one s b t (suc fuel) at e = rw (t.small 0 t.some, le-ltb at b.end (omega (arith, e))) refl

step : (one : One) (i : Input) (s : ℕ) (b : Bound) (t : Turns s) → ((q : ℕ) → after (one q) ≡ fixed_at i s b q) → (fuel m at : ℕ) → at + m ≡ b.end → at % s ≡ 0 → b.reason ≡ 18
    → (s ≤ m → up_to b.end (elements_at one b.end fuel (at + s)) ≡ numbers_at s (m - s) b.end) → up_to b.end (elements_at one b.end (suc fuel) at) ≡ numbers_at s m b.end
step one i s b t ones fuel zero at e al r rest = none_left one s b t (suc fuel) at e
step one i s b t ones fuel (suc m) at e al r rest = by (ltb (suc m) s) refl
  where
    by : (c : Bool) → ltb (suc m) s ≡ c → up_to b.end (elements_at one b.end (suc fuel) at) ≡ numbers_at s (suc m) b.end
    by true h =
        let lt = ltb-true (suc m) s h in
        cut one s b t fuel m at e lt (ones at ∙ (fixed_cut i s b at al (omega (arith, e)) (omega (arith, e, lt)) ∙ ap (λ (n : ℕ). refused n) r))
      where
        refused : ℕ → Result ℕ Fault
        refused n = bad at n
    by false h =
        let le = ltb-false (suc m) s h in
        one_more one s b t fuel (suc m) at (omega (arith, e)) le (ones at ∙ fixed_here i s b at al (omega (arith, e, le))) (rest le)

run : (one : One) (i : Input) (s : ℕ) (b : Bound) (t : Turns s) → ((q : ℕ) → after (one q) ≡ fixed_at i s b q) → (fuel m at : ℕ) → at + m ≡ b.end → m ≤ fuel → at % s ≡ 0 → b.reason ≡ 18
    → up_to b.end (elements_at one b.end fuel at) ≡ numbers_at s m b.end
run one i s b t ones zero zero at e le al r = none_left one s b t zero at e
run one i s b t ones zero (suc m) at e le al r = absurd (omega (arith, le))
run one i s b t ones (suc fuel) m at e le al r =
    step one i s b t ones fuel m at e al r (λ h. run one i s b t ones fuel (m - s) (at + s) (omega (arith, e, h)) (omega (arith, le, h, t.some)) (t.on at al) r)

-- a number at any number of levels
number_read : (i : Input) (levels : ℕ) (n : Num) (b : Bound) (at : ℕ) → read i levels (number n) b at ≡ number_at i n b at
unfolding level single_at
number_read i levels n b at = rw read_is refl

pub same_width : (n : Num) → number_alignment n ≡ byte_len (width n)
same_width byte = refl
same_width i16 = refl
same_width u16 = refl
same_width i32 = refl
same_width u32 = refl
same_width i64 = refl
same_width u64 = refl
same_width double = refl

pub numbers_pass : (i : Input) (levels : ℕ) (k : Kind) (b : Bound) (len start at size : ℕ) → size ≡ number_len k → (size ≡ 0 → ⊥) → start ≡ aligned (alignment k) at → start + len ≡ b.end → b.reason ≡ 18
    → numbers_at size len b.end ≡ up_to b.end (elements_at (read i levels k b) b.end len start)
numbers_pass i levels (number n) b len start at size e some s end r =
    let is : size ≡ number_alignment n = e ∙ sym (same_width n) in
    let stands : start % number_alignment n ≡ 0 = rw s ((turns n).stands at) in
    rw is (sym (run (read i levels (number n) b) i (number_alignment n) b (turns n) (λ q. ap after (number_read i levels n b q) ∙ number_fixed i n b q (same_width n)) len len start end (omega arith) stands r))
numbers_pass i levels boolean b len start at size e some s end r = absurd (some e)
numbers_pass i levels text b len start at size e some s end r = absurd (some e)
numbers_pass i levels path b len start at size e some s end r = absurd (some e)
numbers_pass i levels signature b len start at size e some s end r = absurd (some e)
numbers_pass i levels (array k) b len start at size e some s end r = absurd (some e)
numbers_pass i levels (structure ks) b len start at size e some s end r = absurd (some e)
numbers_pass i levels variant b len start at size e some s end r = absurd (some e)
numbers_pass i levels (dictionary k v) b len start at size e some s end r = absurd (some e)

-- one number, by its size
pub fixed_read : (i : Input) (levels : ℕ) (k : Kind) (b : Bound) (at size : ℕ) → size ≡ number_len k → (size ≡ 0 → ⊥) → fixed_at i size b at ≡ after (read i levels k b at)
fixed_read i levels (number n) b at size e some =
    let is : size ≡ number_alignment n = e ∙ sym (same_width n) in
    rw is (sym (ap after (number_read i levels n b at) ∙ number_fixed i n b at (same_width n)))
fixed_read i levels boolean b at size e some = absurd (some e)
fixed_read i levels text b at size e some = absurd (some e)
fixed_read i levels path b at size e some = absurd (some e)
fixed_read i levels signature b at size e some = absurd (some e)
fixed_read i levels (array k) b at size e some = absurd (some e)
fixed_read i levels (structure ks) b at size e some = absurd (some e)
fixed_read i levels variant b at size e some = absurd (some e)
fixed_read i levels (dictionary k v) b at size e some = absurd (some e)

-- the code that a type begins with tells whether it is a number, and of how many bytes
pub code_size : (k : Kind) (b : ℕ) → b ≡ head_code k → number_len (leaf_of b) ≡ number_len k
code_size k b e = ap (λ (c : ℕ). number_len (leaf_of c)) e ∙ by k
  where
    by : (k : Kind) → number_len (leaf_of (head_code k)) ≡ number_len k
    by (number byte) = refl
    by (number i16) = refl
    by (number u16) = refl
    by (number i32) = refl
    by (number u32) = refl
    by (number i64) = refl
    by (number u64) = refl
    by (number double) = refl
    by boolean = refl
    by text = refl
    by path = refl
    by signature = refl
    by (array k) = refl
    by (structure ks) = refl
    by variant = refl
    by (dictionary k v) = refl

-- a struct at any number of levels
pub structure_read : (i : Input) (levels : ℕ) (ks : List Kind) (b : Bound) (at : ℕ) → read i levels (structure (kinds_of ks)) b at ≡ structure_at (levels == 0) (read i (levels - 1)) i ks b at
unfolding level
structure_read i levels ks b at = rw (read_is, types_in-kinds_of) refl

-- the code of a type that is no array, no dictionary and no struct tells the type
abbrev pub Leaf : ℕ → Kind → Type 0
Leaf b k = (b ≡ 97 → ⊥) → (b ≡ 40 → ⊥) → k ≡ leaf_of b

text_here : (i : Input) (levels : ℕ) (b : Bound) (at : ℕ) → read i levels text b at ≡ long_at (text_body_at i) i b at
unfolding level single_at
text_here i levels b at = rw read_is refl

path_here : (i : Input) (levels : ℕ) (b : Bound) (at : ℕ) → read i levels path b at ≡ long_at (path_body_at i) i b at
unfolding level single_at
path_here i levels b at = rw read_is refl

pub text_kind : (k : Kind) (code : ℕ) → code ≡ 115 → Leaf code k → k ≡ text
text_kind k code e leaf =
    let is : k ≡ leaf_of code = leaf (λ q. absurd (omega (arith, e, q))) (λ q. absurd (omega (arith, e, q))) in
    is ∙ ap leaf_of e

pub path_kind : (k : Kind) (code : ℕ) → code ≡ 111 → Leaf code k → k ≡ path
path_kind k code e leaf =
    let is : k ≡ leaf_of code = leaf (λ q. absurd (omega (arith, e, q))) (λ q. absurd (omega (arith, e, q))) in
    is ∙ ap leaf_of e

pub text_read : (i : Input) (levels : ℕ) (k : Kind) (b : Bound) (at code : ℕ) → code ≡ 115 → Leaf code k → after (long_at (text_body_at i) i b at) ≡ after (read i levels k b at)
text_read i levels k b at code e leaf = rw (text_kind k code e leaf, text_here) refl

pub path_read : (i : Input) (levels : ℕ) (k : Kind) (b : Bound) (at code : ℕ) → code ≡ 111 → Leaf code k → after (long_at (path_body_at i) i b at) ≡ after (read i levels k b at)
path_read i levels k b at code e leaf = rw (path_kind k code e leaf, path_here) refl
