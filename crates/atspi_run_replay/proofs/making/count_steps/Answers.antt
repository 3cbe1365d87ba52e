use Rattle.std.proofs.Common.{refl, arith, sym, ◌∙◌}
use Rattle.atspi_trace.specs.Entry.{entry_of}
use Rattle.atspi_run_replay.specs.Made.{is_step}
use Rattle.atspi_run_replay.proofs.Counts.{counted_all, counted_none, counted_one}
use Rattle.atspi_run_replay.proofs.making.count_steps.Goals as goal
use Rattle.atspi_run_replay.proofs.making.count_steps.Goals.{then-is_step, else-is_step}

pub loop-event-init : goal.loop-event-init
loop-event-init c = record { counted = refl; few = omega arith }

pub loop-event-preserved : goal.loop-event-preserved
loop-event-preserved c =
    let so = c.loop-event.invariant in
    elim c.if-is_step.branch [
      | then-is_step w ↦ record {
        counted = counted_one (λ event. is_step (entry_of event)) c.args.trace.now c.loop-event.event-index c.loop-event.count _ c.event-item.result c.loop-event-test.true c.event-item.is so.counted (sym c.is_step.ensures ∙ w.if-is_step.true) w.count-is;
        few = omega (arith, w.count-is, so.few);
      }
      | else-is_step w ↦ record {
        counted = counted_none (λ event. is_step (entry_of event)) c.args.trace.now c.loop-event.event-index c.loop-event.count _ c.event-item.result c.loop-event-test.true c.event-item.is so.counted (sym c.is_step.ensures ∙ w.if-is_step.false) w.count-is;
        few = omega (arith, w.count-is, so.few);
      }
    ]

pub returns : goal.returns
returns c = counted_all (λ event. is_step (entry_of event)) c.args.trace.now c.loop-event.event-index c.loop-event.count c.loop-event-test.false c.loop-event.invariant.counted
