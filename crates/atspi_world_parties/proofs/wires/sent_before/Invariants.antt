use Rattle.std.proofs.Common.{◌≡◌, ◌≤◌}
use Rattle.atspi_world_parties.specs.Wires.{sent_before}
use Rattle.atspi_world_parties.proofs.wires.sent_before.Given as goal

-- none was found from here to the place
abbrev pub invariant-loop-left : goal.invariant-loop-left
invariant-loop-left l = record { within : l.left ≤ l.place; none : sent_before l.who l.serial l.trace l.place ≡ sent_before l.who l.serial l.trace l.left }

abbrev pub decreases-loop-left : goal.decreases-loop-left
decreases-loop-left l = l.left
