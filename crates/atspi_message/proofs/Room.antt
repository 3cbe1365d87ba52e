-- Room for an item that needs no padding.
use Rattle.std.proofs.Common.{◌≡◌, ℕ, zero, suc, ◌+◌, ◌-◌, ◌%◌, ◌<◌, ◌≤◌, Bool, true, false, cond, eqb, ltb, List, [], ◌∷◌, length, take, drop, Result, Ok, Err, refl, sym, ap, subst, ◌∙◌, arith, inl, inr, ◌⊎◌}
use Rattle.std.proofs.lemmas.Bool.{ltb-false, ltb-true, lt-ltb, le-ltb, cases_lt}
use Rattle.std.specs.Int.{w32}
use Rattle.atspi_types.specs.declared.fault.Fault.{Fault}
use Rattle.atspi_marshal.specs.declared.input.Bound.{Bound}
use Rattle.atspi_marshal.specs.Input.{Input, number_in, byte_in, slice_in, aligned}
use Rattle.atspi_marshal.specs.Reading.{◌>>=◌, bad, passing_reason, zeros_in_front, padding_at, room_at, short_place, long_place}
use Rattle.atspi_marshal.proofs.Places.{aligned-one}

pub nothing_padded : (i : Input) (n : ℕ) (b : Bound) (at : ℕ) → aligned n at ≡ at → at ≤ b.end → padding_at i n b at ≡ Ok at
unfolding padding_at
nothing_padded i n b at same le =
    let none : at - at ≡ 0 = omega arith in
    let Q : ℕ → Type 0 = λ p. cond (ltb b.end p) (bad at (passing_reason i b at)) (cond (ltb (zeros_in_front (slice_in i at (p - at))) (p - at)) (bad (at + zeros_in_front (slice_in i at (p - at))) 10) (Ok p)) ≡ Ok at in
    let start : Q at = rw (le-ltb b.end at le, none) refl in
    subst Q (sym same) start

pub room_here : {A : Type 0} (i : Input) (n len : ℕ) (b : Bound) (at : ℕ) (f : ℕ → Result A Fault) → aligned n at ≡ at → at ≤ b.end → (room_at i n len b at >>= f) ≡ cond (ltb b.end (at + len)) (bad at b.reason) (f at)
unfolding room_at
room_here i n len b at f same le = rw (nothing_padded i n b at same le) (split (ltb b.end (at + len)))
  where
    split : (t : Bool) → (cond t (bad at b.reason) (Ok at) >>= f) ≡ cond t (bad at b.reason) (f at)
    split true = refl
    split false = refl

-- a length of 8 bits, its bytes and the zero byte behind them are inside
pub record ShortFits (i : Input) (b : Bound) (at : ℕ) : Type 0 where
  pub front : at + 1 ≤ b.end
  pub whole : at + 2 + byte_in i at ≤ b.end

pub short_cases : (i : Input) (b : Bound) (at : ℕ) → ShortFits i b at ⊎ (ShortFits i b at → ⊥)
short_cases i b at =
    elim (cases_lt b.end (at + 2 + byte_in i at)) [
      | inl lt ↦ inr (λ f. omega (arith, lt, f.whole))
      | inr le ↦ inl (record { front = omega arith; whole = le })
    ]

pub short_in_room : {A : Type 0} (i : Input) (b : Bound) (at : ℕ) (f : ℕ → Result A Fault) → ShortFits i b at → (short_place i b at >>= f) ≡ f at
unfolding short_place
short_in_room i b at f fits =
    rw (
      room_here i 1 1 b at (λ p. cond (ltb b.end (p + 2 + byte_in i p)) (bad p b.reason) (Ok p)) (aligned-one at) (omega (arith, fits.front)),
      le-ltb b.end (at + 1) fits.front,
      le-ltb b.end (at + 2 + byte_in i at) fits.whole,
    ) refl

pub short_out_of_room : {A : Type 0} (i : Input) (b : Bound) (at : ℕ) (f : ℕ → Result A Fault) → at ≤ b.end → (ShortFits i b at → ⊥) → (short_place i b at >>= f) ≡ bad at b.reason
unfolding short_place
short_out_of_room i b at f le no_room =
    rw (room_here i 1 1 b at (λ p. cond (ltb b.end (p + 2 + byte_in i p)) (bad p b.reason) (Ok p)) (aligned-one at) le) (split (ltb b.end (at + 1)) (ltb b.end (at + 2 + byte_in i at)) refl refl)
  where
    split : (t u : Bool) → ltb b.end (at + 1) ≡ t → ltb b.end (at + 2 + byte_in i at) ≡ u → (cond t (bad at b.reason) (cond u (bad at b.reason) (Ok at)) >>= f) ≡ bad at b.reason
    split true u e g = refl
    split false true e g = refl
    split false false e g = absurd (no_room (record { front = ltb-false b.end (at + 1) e; whole = ltb-false b.end (at + 2 + byte_in i at) g }))

-- the same of a length of 32 bits
pub record LongFits (i : Input) (b : Bound) (at : ℕ) : Type 0 where
  pub front : at + 4 ≤ b.end
  pub whole : at + 5 + number_in i w32 at ≤ b.end

pub long_cases : (i : Input) (b : Bound) (at : ℕ) → LongFits i b at ⊎ (LongFits i b at → ⊥)
long_cases i b at =
    elim (cases_lt b.end (at + 5 + number_in i w32 at)) [
      | inl lt ↦ inr (λ f. omega (arith, lt, f.whole))
      | inr le ↦ inl (record { front = omega arith; whole = le })
    ]

pub long_in_room : {A : Type 0} (i : Input) (b : Bound) (at : ℕ) (f : ℕ → Result A Fault) → aligned 4 at ≡ at → LongFits i b at → (long_place i b at >>= f) ≡ f at
unfolding long_place
long_in_room i b at f same fits =
    rw (
      room_here i 4 4 b at (λ p. cond (ltb b.end (p + 5 + number_in i w32 p)) (bad p b.reason) (Ok p)) same (omega (arith, fits.front)),
      le-ltb b.end (at + 4) fits.front,
      le-ltb b.end (at + 5 + number_in i w32 at) fits.whole,
    ) refl

pub long_out_of_room : {A : Type 0} (i : Input) (b : Bound) (at : ℕ) (f : ℕ → Result A Fault) → aligned 4 at ≡ at → at ≤ b.end → (LongFits i b at → ⊥) → (long_place i b at >>= f) ≡ bad at b.reason
unfolding long_place
long_out_of_room i b at f same le no_room =
    rw (room_here i 4 4 b at (λ p. cond (ltb b.end (p + 5 + number_in i w32 p)) (bad p b.reason) (Ok p)) same le) (split (ltb b.end (at + 4)) (ltb b.end (at + 5 + number_in i w32 at)) refl refl)
  where
    split : (t u : Bool) → ltb b.end (at + 4) ≡ t → ltb b.end (at + 5 + number_in i w32 at) ≡ u → (cond t (bad at b.reason) (cond u (bad at b.reason) (Ok at)) >>= f) ≡ bad at b.reason
    split true u e g = refl
    split false true e g = refl
    split false false e g = absurd (no_room (record { front = ltb-false b.end (at + 4) e; whole = ltb-false b.end (at + 5 + number_in i w32 at) g }))
