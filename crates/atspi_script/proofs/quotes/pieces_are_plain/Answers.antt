use Rattle.std.proofs.Common.{◌≡◌, ℕ, ◌+◌, ◌-◌, length, take, drop, sym, ap, ◌∙◌, arith}
use Rattle.std.specs.List.{list_all}
use Rattle.std.proofs.lemmas.List.{take_rest}
use Rattle.atspi_script.specs.inner.Marks.{stands}
use Rattle.atspi_marshal_in_place.proofs.Alls.{part_fails, goes_on, back_decides}
use Rattle.atspi_script.proofs.quotes.pieces_are_plain.Goals as goal

pub returns-then-not-piece_is_plain : goal.returns-then-not-piece_is_plain
returns-then-not-piece_is_plain c = sym (part_fails stands c.loop-at.at (c.loop-at.at + 16 - c.loop-at.at) c.args.bytes.now (sym c.piece_is_plain.ensures ∙ c.if-not-piece_is_plain.true))

pub loop-at-preserved : goal.loop-at-preserved
loop-at-preserved c =
    let long : 16 ≡ c.loop-at.at + 16 - c.loop-at.at = omega arith in
    let here = ap (λ (n : ℕ). list_all stands (take n (drop c.loop-at.at c.args.bytes.now))) long in (
      omega (arith, c.loop-at-test.true),
      goes_on stands c.loop-at.at 16 c.args.bytes.now c.loop-at.invariant.1 (here ∙ (sym c.piece_is_plain.ensures ∙ c.if-not-piece_is_plain.false)),
    )

pub returns : goal.returns
returns c =
    let bytes = c.args.bytes.now in
    let last = length bytes - 16 in
    let back = ap (list_all stands) (take_rest bytes last) in
    c.piece_is_plain-2.ensures ∙ (back ∙ sym (back_decides stands last c.loop-at.at bytes (omega (arith, c.loop-at-test.false)) c.loop-at.invariant.1))
