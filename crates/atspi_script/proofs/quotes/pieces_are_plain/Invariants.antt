use Rattle.std.proofs.Common.{◌≡◌, ◌≤◌, ◌-◌, take, length, true}
use Rattle.std.specs.List.{list_all}
use Rattle.atspi_script.specs.inner.Marks.{stands}
use Rattle.atspi_script.proofs.quotes.pieces_are_plain.Given as goal

abbrev pub invariant-loop-at : goal.invariant-loop-at
invariant-loop-at l = (l.at ≤ length l.bytes) × (list_all stands (take l.at l.bytes) ≡ true)

abbrev pub decreases-loop-at : goal.decreases-loop-at
decreases-loop-at l = l.last - l.at
