use Rattle.atspi_match.proofs.SlotLemmas.{IsPastSlot}
use Rattle.atspi_match.proofs.slots.first_of.Given as goal

abbrev pub invariant-loop-place : goal.invariant-loop-place
invariant-loop-place l = IsPastSlot l.slots l.conn l.rule l.place
