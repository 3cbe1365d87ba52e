use Rattle.std.proofs.Common.{◌≡◌, List, [], ◌∷◌, ◌++◌}
use Rattle.atspi_live_host.specs.declared.call.Did.{Did}
use Rattle.atspi_live_host.specs.declared.call.Did.TheVariants.{End, NotYet}
use Rattle.atspi_live_app.specs.Turns.{IsInTurn}
use Rattle.atspi_live_app.proofs.Unstarted.{in_order, none_due, stops_first}
use Rattle.atspi_live_app.proofs.examples.unstarted.runs_stopped.Goals as goal

pub returns-clause-so_ended : goal.returns-clause-so_ended
returns-clause-so_ended c = in_order (IsInTurn []) [] (none_due [])

pub returns-clause-not_ended : goal.returns-clause-not_ended
returns-clause-not_ended c e = by e.1.0 e.1.1
  where
    by : (before : List Did) → NotYet ∷ [] ≡ before ++ End ∷ [] → ⊥
    by [] h = cc
    by (d ∷ []) h = cc
    by (d ∷ f ∷ before) h = cc

pub returns-clause-so_stopped : goal.returns-clause-so_stopped
returns-clause-so_stopped c = (stops_first, tt)

pub returns-clause-not_stopped : goal.returns-clause-not_stopped
returns-clause-not_stopped c s = s.0.stopped.order
