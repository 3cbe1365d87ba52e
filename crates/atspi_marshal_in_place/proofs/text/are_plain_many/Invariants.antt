use Rattle.std.proofs.Common.{◌≡◌, ◌≤◌, ◌-◌, take, length, true}
use Rattle.std.specs.List.{list_all}
use Rattle.atspi_marshal_in_place.specs.Passing.{is_plain}
use Rattle.atspi_marshal_in_place.proofs.text.are_plain_many.Given as goal

abbrev pub invariant-loop-at : goal.invariant-loop-at
invariant-loop-at l = (l.at ≤ length l.bytes) × (list_all is_plain (take l.at l.bytes) ≡ true)

abbrev pub decreases-loop-at : goal.decreases-loop-at
decreases-loop-at l = l.last - l.at
