use Rattle.std.proofs.Common.{◌+◌, ◌-◌, length, sym, ◌∙◌, arith}
use Rattle.atspi_marshal_in_place.proofs.Paths.{precede_fails, precede_both, precede_decides}
use Rattle.atspi_marshal_in_place.proofs.text.all_precede.Goals as goal

pub returns-then-not-precede_16 : goal.returns-then-not-precede_16
returns-then-not-precede_16 c =
    let bytes = c.args.bytes.now in
    sym (precede_fails c.loop-at.at 16 (length bytes - 1) bytes (omega (arith, c.loop-at-test.true)) (sym c.precede_16.ensures ∙ c.if-not-precede_16.true))

pub loop-at-preserved : goal.loop-at-preserved
loop-at-preserved c =
    let at = c.loop-at.at in (
      omega (arith, c.loop-at-test.true),
      precede_both at at 16 (at + 16) c.args.bytes.now (omega arith) (omega arith) c.loop-at.invariant.1 (sym c.precede_16.ensures ∙ c.if-not-precede_16.false),
    )

pub returns : goal.returns
returns c =
    let bytes = c.args.bytes.now in
    c.precede_16-2.ensures ∙ precede_decides c.loop-at.at (length bytes - 17) 16 (length bytes - 1) bytes (omega (arith, c.loop-at-test.false)) (omega (arith, c.requires)) c.loop-at.invariant.1
