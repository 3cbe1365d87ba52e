use Rattle.std.proofs.Common.{◌≡◌, ◌++◌, take}
use Rattle.atspi_auth.specs.Lines.{HasNoEnd, ends_in_return}
use Rattle.atspi_auth.proofs.line_end.line_end.Given as goal

abbrev pub invariant-loop-i : goal.invariant-loop-i
invariant-loop-i l = HasNoEnd (l.held ++ take l.i l.piece) × (l.returned ≡ ends_in_return (l.held ++ take l.i l.piece))
