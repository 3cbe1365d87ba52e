use Rattle.std.proofs.Common.{◌≡◌, ◌+◌, ◌-◌, ◌≤◌, drop, length, map, vec_len, vec_capacity}
use Rattle.atspi_message_in_place.specs.View.{envelope_at}
use Rattle.atspi_match.specs.routing.Steps.{calls_after_all}
use Rattle.atspi_bus_steps.specs.InnerBus.{call_of}
use Rattle.atspi_bus_steps.proofs.passing.note_all.Given as goal

abbrev pub invariant-loop-receiver : goal.invariant-loop-receiver
invariant-loop-receiver l = record {
  calls :
      calls_after_all (map call_of l.calls.items) l.conn (envelope_at l.m) (drop l.receiver-index l.receivers)
      ≡ calls_after_all (map call_of l.fn.calls.items) l.conn (envelope_at l.m) l.receivers;
  room : vec_len l.calls + (length l.receivers - l.receiver-index) ≤ vec_capacity l.calls;
}
