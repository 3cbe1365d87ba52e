use Rattle.std.proofs.Common.{drop}
use Rattle.atspi_app_known.specs.happenings.View.{happened}
use Rattle.atspi_app.proofs.Told.{IsTelling}
use Rattle.atspi_app.proofs.telling.each_told.Given as goal

abbrev pub invariant-loop-step : goal.invariant-loop-step
invariant-loop-step l = IsTelling l.tree l.known.heard l.bus (happened l.told) (drop l.step-index l.steps) l.steps
