-- Room in the queue for what happens: places for all of it, and numbers for its messages.
use Rattle.std.specs.Prelude.{ℕ, ◌+◌, ◌≤◌}
use Rattle.std.specs.VecDeque.{deque_len, deque_capacity}
use Rattle.atspi_protocol.specs.exporting.Exporter.{sent_in}
use Rattle.atspi_app_known.specs.declared.happenings.happenings.Happenings.{Happenings}
use Rattle.atspi_app_known.specs.declared.happenings.kept.AppQueue.{AppQueue}
use Rattle.atspi_app_known.specs.happenings.View.{happened, next_of}

pub record HasRoom (q : AppQueue) (h : Happenings) : Type 0 where
  pub places : deque_len q.waiting + deque_len h.events ≤ deque_capacity q.waiting
  pub numbers : next_of q + sent_in (happened h) ≤ 4294967296
