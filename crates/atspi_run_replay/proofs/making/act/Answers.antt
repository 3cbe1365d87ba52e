use Rattle.std.proofs.Common.{ap, Result, Err}
use Rattle.atspi_world.specs.declared.fault.ActFault.{ActFault}
use Rattle.atspi_world.specs.Worlds.{staged}
use Rattle.atspi_run_replay.proofs.Stopping.{act_stops}
use Rattle.atspi_run_replay.proofs.making.act.Goals as goal

abbrev failed : ActFault → Result (Unit {0}) ActFault
failed fault = Err fault

pub returns-clause-stops : goal.returns-clause-stops
returns-clause-stops g c =
    let w = c.act.new.self in
    rw c.stop_of_act.ensures.value
    (act_stops c.in-Err.fault c.args.line _
    (staged g.A.Application.exporter g.R.Follower.follower w)
    c.requires.may (λ why e. c.in-Err.ensures.refused why (ap failed e)) (λ e. c.in-Err.ensures.lost (ap failed e)) (λ e. c.in-Err.ensures.spent (ap failed e)) (rw c.trace.ensures at c.all_fit.ensures))
