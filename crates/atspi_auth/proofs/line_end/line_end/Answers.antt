use Rattle.std.proofs.Common.{arith, length-append, sym, ◌∙◌, ◌++◌, take, get_or, ◌==◌}
use Rattle.std.proofs.lemmas.List.{length-take}
use Rattle.atspi_auth.specs.Lines.{ends_in_return}
use Rattle.atspi_auth.proofs.LinesLemmas.{ends_in_return-length, line_here, no_end_more, not_left, not_right}
use Rattle.atspi_auth.proofs.line_end.line_end.Goals as goal
use Rattle.atspi_auth.proofs.line_end.line_end.Goals.{else-returned-via-then-returned+else-byte-eq10, else-returned-via-else-returned}

pub returns-then-byte-eq10-clause-room : goal.returns-then-byte-eq10-clause-room
returns-then-byte-eq10-clause-room c =
    omega (arith, ends_in_return-length (c.args.held.now ++ take c.loop-i.i c.args.piece.now) (sym c.loop-i.invariant.1 ∙ c.if-returned.true), length-append c.args.held.now (take c.loop-i.i c.args.piece.now), length-take c.loop-i.i c.args.piece.now)

pub returns-then-byte-eq10-clause-line : goal.returns-then-byte-eq10-clause-line
returns-then-byte-eq10-clause-line c =
    line_here c.args.held.now c.args.piece.now c.loop-i.i c.loop-i-test.true c.loop-i.invariant.0
    (sym c.loop-i.invariant.1 ∙ c.if-returned.true) c.if-byte-eq10.true

pub loop-i-preserved : goal.loop-i-preserved
loop-i-preserved c =
    no_end_more c.args.held.now c.args.piece.now c.loop-i.i c.loop-i-test.true c.loop-i.invariant.0
    (elim c.else-returned.branch [
      | else-returned-via-then-returned+else-byte-eq10 w ↦ not_right (ends_in_return (c.args.held.now ++ take c.loop-i.i c.args.piece.now)) (get_or c.args.piece.now c.loop-i.i 0) 10 w.if-byte-eq10.false
      | else-returned-via-else-returned w ↦ not_left (ends_in_return (c.args.held.now ++ take c.loop-i.i c.args.piece.now)) (get_or c.args.piece.now c.loop-i.i 0 == 10) (sym c.loop-i.invariant.1 ∙ w.if-returned.false)
    ])
