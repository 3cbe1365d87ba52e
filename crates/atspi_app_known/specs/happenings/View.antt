-- How contracts see what happened, and the queue of it: the number of the next message, and what waits, with its
-- numbers.
use Rattle.std.specs.Prelude.{ℕ, ◌+◌, List}
use Rattle.atspi_protocol.specs.exporting.Exporter.{Happening, numbered}
use Rattle.atspi_app_known.specs.declared.happenings.happenings.Happenings.{Happenings}
use Rattle.atspi_app_known.specs.declared.happenings.kept.AppQueue.{AppQueue}
use Rattle.atspi_app_known.specs.happenings.Happened.{all_happened}

abbrev pub happened : Happenings → List Happening
happened h = all_happened h.events.items

abbrev pub next_of : AppQueue → ℕ
next_of q = q.taken + 1

abbrev pub out_of : AppQueue → List Happening
out_of q = numbered (q.handed_out + 1) (all_happened q.waiting.items)
