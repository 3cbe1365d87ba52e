use Rattle.std.proofs.Common.{◌≡◌, ◌≤◌, ◌-◌, length, true}
use Rattle.atspi_marshal_in_place.specs.Paths.{precede}
use Rattle.atspi_marshal_in_place.proofs.text.all_precede.Given as goal

abbrev pub invariant-loop-at : goal.invariant-loop-at
invariant-loop-at l = (l.at ≤ length l.bytes - 1) × (precede 0 l.at l.bytes ≡ true)

abbrev pub decreases-loop-at : goal.decreases-loop-at
decreases-loop-at l = l.last - l.at
