use Rattle.atspi_audit_text.proofs.Cuts.{NoneBefore}
use Rattle.atspi_audit_text.proofs.lines.next_line.Given as goal

abbrev pub invariant-loop-i : goal.invariant-loop-i
invariant-loop-i l = NoneBefore l.text l.i
