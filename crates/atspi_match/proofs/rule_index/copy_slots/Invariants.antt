use Rattle.std.proofs.Common.{◌≡◌, take}
use Rattle.atspi_match.specs.Slots.{held_in}
use Rattle.atspi_match.proofs.rule_index.copy_slots.Given as goal

abbrev pub invariant-loop-slot : goal.invariant-loop-slot
invariant-loop-slot l = l.copy ≡ held_in (take l.slot-index l.slots)
