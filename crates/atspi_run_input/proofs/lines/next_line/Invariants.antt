use Rattle.atspi_run_input.proofs.LineLemmas.{NoFeed}
use Rattle.atspi_run_input.proofs.lines.next_line.Given as goal

abbrev pub invariant-loop-i : goal.invariant-loop-i
invariant-loop-i l = NoFeed l.text l.i
