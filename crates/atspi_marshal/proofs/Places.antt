-- Bytes that stand at a place, padding and numbers.
use Rattle.std.proofs.Common.{◌≡◌, ℕ, zero, suc, ◌+◌, ◌-◌, ◌%◌, ◌<◌, ◌≤◌, ◌^◌, Bool, true, false, cond, eqb, ltb, List, [], ◌∷◌, ◌++◌, length, get_or, take, take-add, drop, Result, Ok, Err, refl, sym, ap, subst, ◌∙◌, arith, inl, inr}
use Rattle.std.specs.Int.{Width, w8, w16, w32, w64, byte_len, to_be_bytes, to_le_bytes, from_be_bytes, from_le_bytes}
use Rattle.std.proofs.lemmas.Bool.{ltb-false, le-ltb, cases_lt}
use Rattle.std.proofs.lemmas.List.{take_at, drop_at, drop-drop, length-append, length-take, length-drop, get_or-drop, get_or-take, get_or_past}
use Rattle.std.proofs.lemmas.Nat.{be_bytes_2, be_bytes_4, be_bytes_8, le_bytes_2, le_bytes_4, le_bytes_8, from_be_bytes-to_be_bytes_2, from_le_bytes-to_le_bytes_2, from_be_bytes-to_be_bytes_4, from_le_bytes-to_le_bytes_4, from_be_bytes-to_be_bytes_8, from_le_bytes-to_le_bytes_8}
use Rattle.atspi_types.specs.Kinds.{Num, width, byte, i16, u16, i32, u32, i64, u64, double}
use Rattle.atspi_types.specs.declared.fault.Order.TheVariants.{Little, Big}
use Rattle.atspi_types.specs.declared.fault.Order.{Order}
use Rattle.atspi_marshal.specs.declared.input.Bound.{Bound}
use Rattle.atspi_types.specs.declared.fault.Fault.{Fault}
use Rattle.atspi_marshal.specs.Input.{Input, Stands, number_bytes, from_bytes, number_in, byte_in, slice_in, aligned}
use Rattle.atspi_marshal.specs.Spelling.{zeros, padding}
use Rattle.atspi_marshal.specs.Reading.{◌>>=◌, bad, zeros_in_front, passing_reason, padding_at, room_at}

abbrev pub IsBytes : List ℕ → Type 0
IsBytes bytes = (i : ℕ) → get_or bytes i 0 < 256

pub record IsValid (i : Input) (b : Bound) : Type 0 where
  pub long : b.end ≤ length i.bytes
  pub late : (17 ≤ b.reason) × (b.reason ≤ 19)

pub IsBytes-slice : (at n : ℕ) (bytes : List ℕ) → IsBytes bytes → IsBytes (take n (drop at bytes))
IsBytes-slice at n bytes h i =
    elim (cases_lt i n) [
      | inl lt ↦ rw (get_or-take n (drop at bytes) i 0 lt, get_or-drop) (h (at + i))
      | inr le ↦ rw (get_or_past (take n (drop at bytes)) i 0 (omega (arith, length-take n (drop at bytes)))) (omega arith)
    ]

pub length-slice : (i : Input) (at n : ℕ) → at + n ≤ length i.bytes → length (slice_in i at n) ≡ n
length-slice i at n le = omega (arith, length-take n (drop at i.bytes), length-drop at i.bytes)

-- the value of a step that did not fail
pub bind_ok : {A B : Type 0} (r : Result A Fault) (f : A → Result B Fault) (y : B) → (r >>= f) ≡ Ok y → (x : A) × (r ≡ Ok x) × (f x ≡ Ok y)
bind_ok (Ok x) f y e = (x, refl, e)
bind_ok (Err d) f y e = absurd cc

abbrev pub done : {A : Type 0} → A → Result A Fault
done x = Ok x

pub ok_is : {A : Type 0} (x y : A) → done x ≡ done y → x ≡ y
ok_is x y e = cc

-- a test that was passed
pub passed : {A : Type 0} (b : Bool) (d : Fault) (r : Result A Fault) (y : A) → cond b (Err d) r ≡ Ok y → (b ≡ false) × (r ≡ Ok y)
passed true d r y e = absurd cc
passed false d r y e = (refl, e)

pub passed_not : {A : Type 0} (b : Bool) (d : Fault) (r : Result A Fault) (y : A) → cond b r (Err d) ≡ Ok y → (b ≡ true) × (r ≡ Ok y)
passed_not true d r y e = (refl, e)
passed_not false d r y e = absurd cc

pub Stands-nil : (i : Input) (at : ℕ) → Stands i at [] at
Stands-nil i at = (omega arith, refl)

pub Stands-append : (i : Input) (at mid next : ℕ) (s t : List ℕ) → Stands i at s mid → Stands i mid t next → Stands i at (s ++ t) next
Stands-append i at mid next s t p q =
    let there : drop (length s) (drop at i.bytes) ≡ drop mid i.bytes = drop-drop (length s) at i.bytes ∙ ap (λ (n : ℕ). drop n i.bytes) (sym p.0) in
    let second : take (length t) (drop (length s) (drop at i.bytes)) ≡ t = ap (λ (bs : List ℕ). take (length t) bs) there ∙ q.1 in
    let both : take (length s + length t) (drop at i.bytes) ≡ s ++ t = take-add (length s) (length t) (drop at i.bytes) ∙ rw (p.1, second) refl in
    (omega (arith, length-append s t, p.0, q.0), rw length-append both)

pub Stands-front : (i : Input) (at next : ℕ) (s t : List ℕ) → next ≤ length i.bytes → Stands i at (s ++ t) next → Stands i at s (at + length s)
Stands-front i at next s t le h =
    let n = length s in
    let long : n ≤ length (drop at i.bytes) = omega (arith, h.0, le, length-append s t, length-drop at i.bytes) in
    let len : length (take n (drop at i.bytes)) ≡ n = omega (arith, length-take n (drop at i.bytes)) in
    let whole : take n (drop at i.bytes) ++ take (length t) (drop n (drop at i.bytes)) ≡ s ++ t = sym (take-add n (length t) (drop at i.bytes)) ∙ ap (λ (m : ℕ). slice_in i at m) (sym (length-append s t)) ∙ h.1 in
    (refl, sym (take_at (take n (drop at i.bytes)) _ n len) ∙ ap (λ (bs : List ℕ). take n bs) whole ∙ take_at s t n refl)

pub Stands-back : (i : Input) (at next : ℕ) (s t : List ℕ) → next ≤ length i.bytes → Stands i at (s ++ t) next → Stands i (at + length s) t next
Stands-back i at next s t le h =
    let n = length s in
    let long : n ≤ length (drop at i.bytes) = omega (arith, h.0, le, length-append s t, length-drop at i.bytes) in
    let len : length (take n (drop at i.bytes)) ≡ n = omega (arith, length-take n (drop at i.bytes)) in
    let whole : take n (drop at i.bytes) ++ take (length t) (drop n (drop at i.bytes)) ≡ s ++ t = sym (take-add n (length t) (drop at i.bytes)) ∙ ap (λ (m : ℕ). slice_in i at m) (sym (length-append s t)) ∙ h.1 in
    let back : take (length t) (drop n (drop at i.bytes)) ≡ t = sym (drop_at (take n (drop at i.bytes)) _ n len) ∙ ap (λ (bs : List ℕ). drop n bs) whole ∙ drop_at s t n refl in
    (omega (arith, h.0, length-append s t), ap (λ (bs : List ℕ). take (length t) bs) (sym (drop-drop n at i.bytes)) ∙ back)

pub Stands-slice : (i : Input) (at n : ℕ) → at + n ≤ length i.bytes → Stands i at (slice_in i at n) (at + n)
Stands-slice i at n le =
    let len = length-slice i at n le in
    (omega (arith, len), ap (λ (m : ℕ). slice_in i at m) len)

pub Stands-byte : (i : Input) (at : ℕ) → at + 1 ≤ length i.bytes → Stands i at (byte_in i at ∷ []) (at + 1)
Stands-byte i at le = (omega arith, first (drop at i.bytes) (omega (arith, length-drop at i.bytes)) ∙ ap (λ (b : ℕ). b ∷ []) (get_or-drop at i.bytes 0 0 ∙ ap (λ (k : ℕ). get_or i.bytes k 0) (omega arith)))
  where
    first : (bytes : List ℕ) → 0 < length bytes → take 1 bytes ≡ get_or bytes 0 0 ∷ []
    first [] lt = absurd (omega arith)
    first (b ∷ bytes) lt = refl

zeros_all : (n : ℕ) (bytes : List ℕ) → n ≤ zeros_in_front (take n bytes) → take n bytes ≡ zeros n
zeros_all zero bytes le = refl
zeros_all (suc n) [] le = absurd (omega arith)
zeros_all (suc n) (zero ∷ bytes) le = ap (λ (bs : List ℕ). 0 ∷ bs) (zeros_all n bytes (omega arith))
zeros_all (suc n) (suc b ∷ bytes) le = absurd (omega arith)

pub length-zeros : (n : ℕ) → length (zeros n) ≡ n
length-zeros zero = refl
length-zeros (suc n) = ap suc (length-zeros n)

pub record Padded (i : Input) (n : ℕ) (b : Bound) (at p : ℕ) : Type 0 where
  pub place : p ≡ aligned n at
  pub within : p ≤ b.end
  pub stands : Stands i at (padding n at) p

pub padding_takes : (i : Input) (n : ℕ) (b : Bound) (at p : ℕ) → IsValid i b → padding_at i n b at ≡ Ok p → Padded i n b at p
unfolding padding_at
padding_takes i n b at p valid e =
    let whole = aligned n at in
    let zs = zeros_in_front (slice_in i at (whole - at)) in
    let first = passed (ltb b.end whole) (record { place = at; reason = passing_reason i b at }) _ p e in
    let second = passed (ltb zs (whole - at)) (record { place = at + zs; reason = 10 }) (Ok whole) p first.1 in
    let is : whole ≡ p = ok_is whole p second.1 in
    let within : whole ≤ b.end = ltb-false b.end whole first.0 in
    let len = length-zeros (whole - at) in
    let there : Stands i at (padding n at) whole = (omega (arith, len), ap (λ (m : ℕ). slice_in i at m) len ∙ zeros_all (whole - at) (drop at i.bytes) (ltb-false zs (whole - at) second.0)) in
    subst (λ (q : ℕ). Padded i n b at q) is (record { place = refl; within = within; stands = there })

pub record Roomy (i : Input) (n len : ℕ) (b : Bound) (at p : ℕ) : Type 0 where
  pub place : p ≡ aligned n at
  pub within : p + len ≤ b.end
  pub stands : Stands i at (padding n at) p

pub room_takes : (i : Input) (n len : ℕ) (b : Bound) (at p : ℕ) → IsValid i b → room_at i n len b at ≡ Ok p → Roomy i n len b at p
unfolding room_at
room_takes i n len b at p valid e =
    let a = bind_ok (padding_at i n b at) (λ q. cond (ltb b.end (q + len)) (bad q b.reason) (Ok q)) p e in
    let g = passed (ltb b.end (a.0 + len)) (record { place = a.0; reason = b.reason }) (Ok a.0) p a.2 in
    let t = padding_takes i n b at a.0 valid a.1 in
    subst (λ (q : ℕ). Roomy i n len b at q) (ok_is a.0 p g.1) (record { place = t.place; within = ltb-false b.end (a.0 + len) g.0; stands = t.stands })

-- a width that is read and written again
pub record IsWide (w : Width) : Type 0 where
  pub back : (o : Order) (bytes : List ℕ) → length bytes ≡ byte_len w → IsBytes bytes → number_bytes o w (from_bytes o w bytes) ≡ bytes
  pub below : (o : Order) (bytes : List ℕ) → IsBytes bytes → from_bytes o w bytes < 256 ^ byte_len w
  pub long : (o : Order) (n : ℕ) → length (number_bytes o w n) ≡ byte_len w
  pub again : (o : Order) (n : ℕ) → n < 256 ^ byte_len w → from_bytes o w (number_bytes o w n) ≡ n

back8 : (o : Order) (bytes : List ℕ) → length bytes ≡ 1 → IsBytes bytes → number_bytes o w8 (from_bytes o w8 bytes) ≡ bytes
back8 o [] len h = absurd (omega (arith, len))
back8 o (b ∷ c ∷ bytes) len h = absurd (omega (arith, len))
back8 Little (b ∷ []) len h = let is : b % 256 ≡ b = omega (arith, h 0) in ap (λ (n : ℕ). n ∷ []) is
back8 Big (b ∷ []) len h = let is : b % 256 ≡ b = omega (arith, h 0) in ap (λ (n : ℕ). n ∷ []) is

below8 : (o : Order) (bytes : List ℕ) → IsBytes bytes → from_bytes o w8 bytes < 256 ^ byte_len w8
below8 Little bytes h = h 0
below8 Big bytes h = h 0

long8 : (o : Order) (n : ℕ) → length (number_bytes o w8 n) ≡ 1
long8 Little n = refl
long8 Big n = refl

again8 : (o : Order) (n : ℕ) → n < 256 → from_bytes o w8 (number_bytes o w8 n) ≡ n
again8 Little n lt = let is : n % 256 ≡ n = omega (arith, lt) in is
again8 Big n lt = let is : n % 256 ≡ n = omega (arith, lt) in is

pub wide8 : IsWide w8
wide8 = record { back = back8; below = below8; long = long8; again = again8 }

back16 : (o : Order) (bytes : List ℕ) → length bytes ≡ 2 → IsBytes bytes → number_bytes o w16 (from_bytes o w16 bytes) ≡ bytes
back16 Little bytes len h = le_bytes_2 bytes _ len h refl
back16 Big bytes len h = be_bytes_2 bytes _ len h refl

below16 : (o : Order) (bytes : List ℕ) → IsBytes bytes → from_bytes o w16 bytes < 256 ^ byte_len w16
below16 Little bytes h = omega (arith, h 0, h 1)
below16 Big bytes h = omega (arith, h 0, h 1)

long16 : (o : Order) (n : ℕ) → length (number_bytes o w16 n) ≡ 2
long16 Little n = refl
long16 Big n = refl

again16 : (o : Order) (n : ℕ) → n < 2 ^ 16 → from_bytes o w16 (number_bytes o w16 n) ≡ n
again16 Little n lt = from_le_bytes-to_le_bytes_2 n lt
again16 Big n lt = from_be_bytes-to_be_bytes_2 n lt

pub wide16 : IsWide w16
wide16 = record { back = back16; below = below16; long = long16; again = again16 }

back32 : (o : Order) (bytes : List ℕ) → length bytes ≡ 4 → IsBytes bytes → number_bytes o w32 (from_bytes o w32 bytes) ≡ bytes
back32 Little bytes len h = le_bytes_4 bytes _ len h refl
back32 Big bytes len h = be_bytes_4 bytes _ len h refl

below32 : (o : Order) (bytes : List ℕ) → IsBytes bytes → from_bytes o w32 bytes < 256 ^ byte_len w32
below32 Little bytes h = omega (arith, h 0, h 1, h 2, h 3)
below32 Big bytes h = omega (arith, h 0, h 1, h 2, h 3)

long32 : (o : Order) (n : ℕ) → length (number_bytes o w32 n) ≡ 4
long32 Little n = refl
long32 Big n = refl

again32 : (o : Order) (n : ℕ) → n < 2 ^ 32 → from_bytes o w32 (number_bytes o w32 n) ≡ n
again32 Little n lt = from_le_bytes-to_le_bytes_4 n lt
again32 Big n lt = from_be_bytes-to_be_bytes_4 n lt

pub wide32 : IsWide w32
wide32 = record { back = back32; below = below32; long = long32; again = again32 }

back64 : (o : Order) (bytes : List ℕ) → length bytes ≡ 8 → IsBytes bytes → number_bytes o w64 (from_bytes o w64 bytes) ≡ bytes
back64 Little bytes len h = le_bytes_8 bytes _ len h refl
back64 Big bytes len h = be_bytes_8 bytes _ len h refl

below64 : (o : Order) (bytes : List ℕ) → IsBytes bytes → from_bytes o w64 bytes < 256 ^ byte_len w64
below64 Little bytes h = omega (arith, h 0, h 1, h 2, h 3, h 4, h 5, h 6, h 7)
below64 Big bytes h = omega (arith, h 0, h 1, h 2, h 3, h 4, h 5, h 6, h 7)

long64 : (o : Order) (n : ℕ) → length (number_bytes o w64 n) ≡ 8
long64 Little n = refl
long64 Big n = refl

again64 : (o : Order) (n : ℕ) → n < 2 ^ 64 → from_bytes o w64 (number_bytes o w64 n) ≡ n
again64 Little n lt = from_le_bytes-to_le_bytes_8 n lt
again64 Big n lt = from_be_bytes-to_be_bytes_8 n lt

pub wide64 : IsWide w64
wide64 = record { back = back64; below = below64; long = long64; again = again64 }

pub wide : (n : Num) → IsWide (width n)
wide byte = wide8
wide i16 = wide16
wide u16 = wide16
wide i32 = wide32
wide u32 = wide32
wide i64 = wide64
wide u64 = wide64
wide double = wide64

pub number_takes : (w : Width) → IsWide w → (i : Input) (b : Bound) (p : ℕ) → IsBytes i.bytes → IsValid i b → p + byte_len w ≤ b.end
    → Stands i p (number_bytes i.order w (number_in i w p)) (p + byte_len w) × (number_in i w p < 256 ^ byte_len w)
number_takes w wide i b p h valid le =
    let fits : p + byte_len w ≤ length i.bytes = omega (arith, le, valid.long) in
    let bytes = IsBytes-slice p (byte_len w) i.bytes h in
    let back = wide.back i.order (slice_in i p (byte_len w)) (length-slice i p (byte_len w) fits) bytes in
    (rw back (Stands-slice i p (byte_len w) fits), wide.below i.order (slice_in i p (byte_len w)) bytes)

-- a number that stands at a place is read there
pub number_again : (w : Width) → IsWide w → (i : Input) (p n next : ℕ) → n < 256 ^ byte_len w → Stands i p (number_bytes i.order w n) next → (number_in i w p ≡ n) × (next ≡ p + byte_len w)
number_again w wide i p n next lt h =
    let len = wide.long i.order n in
    let same : slice_in i p (byte_len w) ≡ number_bytes i.order w n = ap (λ (m : ℕ). slice_in i p m) (sym len) ∙ h.1 in
    (ap (λ (bs : List ℕ). from_bytes i.order w bs) same ∙ wide.again i.order n lt, h.0 ∙ ap (λ (m : ℕ). p + m) len)

-- behind its padding an item has room
pub record Room (i : Input) (n len : ℕ) (b : Bound) (at : ℕ) : Type 0 where
  pub within : aligned n at + len ≤ b.end
  pub stands : Stands i at (padding n at) (aligned n at)

pub room_then : {A : Type 0} (i : Input) (n len : ℕ) (b : Bound) (at : ℕ) (f : ℕ → Result A Fault) (y : A) → IsValid i b → (room_at i n len b at >>= f) ≡ Ok y → Room i n len b at × (f (aligned n at) ≡ Ok y)
room_then i n len b at f y valid e =
    let a = bind_ok (room_at i n len b at) f y e in
    let r = room_takes i n len b at a.0 valid a.1 in
    (record { within = omega (arith, r.place, r.within); stands = subst (λ (q : ℕ). Stands i at (padding n at) q) r.place r.stands }, subst (λ (q : ℕ). f q ≡ Ok y) r.place a.2)

pub padding_then : {A : Type 0} (i : Input) (n : ℕ) (b : Bound) (at : ℕ) (f : ℕ → Result A Fault) (y : A) → IsValid i b → (padding_at i n b at >>= f) ≡ Ok y → Room i n 0 b at × (f (aligned n at) ≡ Ok y)
padding_then i n b at f y valid e =
    let a = bind_ok (padding_at i n b at) f y e in
    let r = padding_takes i n b at a.0 valid a.1 in
    (record { within = omega (arith, r.place, r.within); stands = subst (λ (q : ℕ). Stands i at (padding n at) q) r.place r.stands }, subst (λ (q : ℕ). f q ≡ Ok y) r.place a.2)

pub aligned-one : (at : ℕ) → aligned 1 at ≡ at
aligned-one at = omega arith
