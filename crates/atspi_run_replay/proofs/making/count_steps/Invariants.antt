use Rattle.std.proofs.Common.{◌≡◌, ◌≤◌, count_by, take}
use Rattle.atspi_trace.specs.Entry.{entry_of}
use Rattle.atspi_run_replay.specs.Made.{is_step}
use Rattle.atspi_run_replay.proofs.making.count_steps.Given as goal

abbrev pub invariant-loop-event : goal.invariant-loop-event
invariant-loop-event l =
    record {
      counted : l.count ≡ count_by (λ event. is_step (entry_of event)) (take l.event-index l.trace);
      few : l.count ≤ l.event-index;
    }
