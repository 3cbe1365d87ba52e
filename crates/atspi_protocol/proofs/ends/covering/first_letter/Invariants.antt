use Rattle.std.proofs.Common.{◌≡◌, drop}
use Rattle.atspi_protocol.specs.ends.Covering.{compared}
use Rattle.atspi_protocol.proofs.ends.covering.first_letter.Given as goal

abbrev pub invariant-loop-i : goal.invariant-loop-i
invariant-loop-i l = compared (drop l.i l.word) ≡ compared l.word
