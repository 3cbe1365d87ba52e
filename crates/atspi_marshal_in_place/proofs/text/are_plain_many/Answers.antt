use Rattle.std.proofs.Common.{◌≡◌, ℕ, ◌+◌, ◌-◌, length, take, drop, sym, ap, ◌∙◌, arith}
use Rattle.std.specs.List.{list_all}
use Rattle.std.proofs.lemmas.List.{take_rest}
use Rattle.atspi_marshal_in_place.specs.Passing.{is_plain}
use Rattle.atspi_marshal_in_place.proofs.Alls.{part_fails, goes_on, back_decides}
use Rattle.atspi_marshal_in_place.proofs.text.are_plain_many.Goals as goal

pub returns-then-not-are_plain_16 : goal.returns-then-not-are_plain_16
returns-then-not-are_plain_16 c = sym (part_fails is_plain c.loop-at.at (c.loop-at.at + 16 - c.loop-at.at) c.args.bytes.now (sym c.are_plain_16.ensures ∙ c.if-not-are_plain_16.true))

pub loop-at-preserved : goal.loop-at-preserved
loop-at-preserved c =
    let long : 16 ≡ c.loop-at.at + 16 - c.loop-at.at = omega arith in
    let here = ap (λ (n : ℕ). list_all is_plain (take n (drop c.loop-at.at c.args.bytes.now))) long in (
      omega (arith, c.loop-at-test.true),
      goes_on is_plain c.loop-at.at 16 c.args.bytes.now c.loop-at.invariant.1 (here ∙ (sym c.are_plain_16.ensures ∙ c.if-not-are_plain_16.false)),
    )

pub returns : goal.returns
returns c =
    let bytes = c.args.bytes.now in
    let last = length bytes - 16 in
    let back = ap (list_all is_plain) (take_rest bytes last) in
    c.are_plain_16-2.ensures ∙ (back ∙ sym (back_decides is_plain last c.loop-at.at bytes (omega (arith, c.loop-at-test.false)) c.loop-at.invariant.1))
