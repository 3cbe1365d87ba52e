use Rattle.atspi_run_replay.proofs.SerialLemmas.{none_read, one_read, all_read}
use Rattle.atspi_run_replay.proofs.serials.all_fit.Goals as goal

pub loop-event-init : goal.loop-event-init
loop-event-init c = none_read c.args.trace.now

pub loop-event-preserved : goal.loop-event-preserved
loop-event-preserved c = one_read c.args.trace.now c.loop-event.event-index c.event-item.result c.loop-event-test.true c.event-item.is c.loop-event.invariant c.fits.ensures

pub returns : goal.returns
returns c = all_read c.args.trace.now c.loop-event.event-index c.loop-event-test.false c.loop-event.invariant
