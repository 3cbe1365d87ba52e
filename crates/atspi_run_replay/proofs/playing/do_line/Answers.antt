use Rattle.std.proofs.Common.{ap, Result, Err}
use Rattle.atspi_world.specs.declared.fault.ActFault.{ActFault}
use Rattle.atspi_run_replay.proofs.MayLemmas.{line_may}
use Rattle.atspi_run_replay.proofs.playing.do_line.Goals as goal

abbrev failed : ActFault → Result (Unit {0}) ActFault
failed fault = Err fault

pub act-requires-clause-may : goal.act-requires-clause-may
act-requires-clause-may g c = line_may c.in-Ok.line c.args.bytes.now c.in-Ok.ensures

pub returns-in-Err-clause-line : goal.returns-in-Err-clause-line
returns-in-Err-clause-line g c = c.stop_of_line.ensures c.args.bytes.now _ _ c.in-Err.ensures

pub returns-in-Ok-act-clause-line : goal.returns-in-Ok-act-clause-line
returns-in-Ok-act-clause-line g c = (c.in-Ok.line, c.in-Ok.ensures, c.in-Ok-act.ensures.does, rw (c.trace.ensures, c.trace-from.ensures) at c.fit_from.ensures)

pub returns-clause-line : goal.returns-clause-line
returns-clause-line g c =
    c.stop_of_act.ensures.stops c.in-Ok.line c.args.bytes.now _ _ c.in-Ok.ensures (λ why e. c.in-Err-act.ensures.refused why (ap failed e)) (λ e. c.in-Err-act.ensures.lost (ap failed e))
    (λ e. c.in-Err-act.ensures.spent (ap failed e)) (rw c.trace-in-Err-act.ensures at c.all_fit.ensures)
