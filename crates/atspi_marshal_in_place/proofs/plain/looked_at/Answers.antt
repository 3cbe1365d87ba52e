use Rattle.std.proofs.Common.{◌≡◌, ℕ, ◌+◌, ◌-◌, ◌%◌, ◌≤◌, length, refl, sym, ◌∙◌, arith}
use Rattle.std.proofs.lemmas.Bool.{eqb-true}
use Rattle.atspi_marshal.specs.Input.{Input, aligned, slice_in}
use Rattle.atspi_marshal.specs.Reading.{input_of, zeros_in_front}
use Rattle.atspi_marshal.proofs.Places.{length-slice}
use Rattle.atspi_marshal_in_place.proofs.Passes.{zero_padding}
use Rattle.atspi_marshal_in_place.proofs.plain.looked_at.Goals as goal

behind : (a b : ℕ) → a ≤ a + b
behind a b = omega arith

long : (i : Input) (at p end : ℕ) → at ≤ p → p ≤ end → end ≤ length i.bytes → length (slice_in i at (p - at)) ≡ p - at
long i at p end le inside fits = length-slice i at (p - at) (omega (arith, le, inside, fits))

pub returns-then-are_zeros-clause-place : goal.returns-then-are_zeros-clause-place
returns-then-are_zeros-clause-place c =
    let i = input_of c.args.input.now in
    let n = c.args.align in
    let at = c.args.at in
    let place = aligned n at in
    let there = slice_in i at (place - at) in
    let full = long i at place c.args.bound.end (behind at ((n - at % n) % n)) c.if-place-bound.true c.requires.end.0 in
    let zeros = eqb-true (zeros_in_front there) (length there) (sym c.are_zeros.ensures ∙ c.if-are_zeros.true) in
    sym (zero_padding i n c.args.bound at place refl c.if-place-bound.true (zeros ∙ full))
