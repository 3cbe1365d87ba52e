use Rattle.std.proofs.Common.{◌≡◌, ◌++◌, length, map}
use Rattle.atspi_trace.specs.play.Playing.{shown_sight}
use Rattle.atspi_trace_rows.proofs.showing.rows.shown_rows.Given as goal

-- what was shown, and then what is left, is all
abbrev pub invariant-loop-seen : goal.invariant-loop-seen
invariant-loop-seen l = l.list.items ++ map shown_sight l.rest ≡ map shown_sight l.fn.rows

abbrev pub decreases-loop-seen : goal.decreases-loop-seen
decreases-loop-seen l = length l.rest
