use Rattle.std.proofs.Common.{◌≡◌, ◌≤◌, take}
use Rattle.atspi_app_known.specs.happenings.Happened.{sent_by}
use Rattle.atspi_app_known.proofs.happenings.queue.count_messages.Given as goal

abbrev pub invariant-loop-i : goal.invariant-loop-i
invariant-loop-i l = record { so_far : l.count ≡ sent_by (take l.i l.events.items); few : l.count ≤ l.i }
