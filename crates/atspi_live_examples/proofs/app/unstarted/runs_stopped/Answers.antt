use Rattle.std.proofs.Common.{List, [], length, ap, arith}
use Rattle.atspi_live_app.specs.Standing.{Event, lines_in}
use Rattle.atspi_live_app.specs.Turns.{IsInTurn}
use Rattle.atspi_live_examples.proofs.OfApp.Granted.{stops}
use Rattle.atspi_live_examples.proofs.OfApp.Waiting.{stops_first, wants}
use Rattle.atspi_live_examples.proofs.app.unstarted.runs_stopped.Goals as goal

pub returns-clause-stopped : goal.returns-clause-stopped
returns-clause-stopped c = (stops_first, tt)

pub returns-clause-lines_alone : goal.returns-clause-lines_alone
returns-clause-lines_alone c = stops

pub returns-clause-untold : goal.returns-clause-untold
returns-clause-untold c = tt

pub returns-clause-found_end : goal.returns-clause-found_end
returns-clause-found_end c lines s = s.1.0

pub returns-clause-other_link : goal.returns-clause-other_link
returns-clause-other_link c = (wants (IsInTurn []) [], tt)

pub returns-clause-other_number : goal.returns-clause-other_number
returns-clause-other_number c s = omega (arith, s.stopped.counted, ap (λ (h : List Event). length (lines_in h)) s.stopped.order)
