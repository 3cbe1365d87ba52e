use Rattle.atspi_live_app.proofs.Feeds.{NoFeed}
use Rattle.atspi_live_app.proofs.lines.line_end.Given as goal

abbrev pub invariant-loop-i : goal.invariant-loop-i
invariant-loop-i l = NoFeed l.text l.i
