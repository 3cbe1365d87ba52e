use Rattle.atspi_match.specs.Slots.{AreNoted}
use Rattle.atspi_match.proofs.SlotLemmas.{IsClearing}
use Rattle.atspi_match.proofs.slots.empty_all.Given as goal

abbrev pub invariant-loop-place : goal.invariant-loop-place
invariant-loop-place l = record { clearing : IsClearing l.fn.slots.items l.slots.items l.conn l.place; noted : AreNoted l.groups l.slots.items }
