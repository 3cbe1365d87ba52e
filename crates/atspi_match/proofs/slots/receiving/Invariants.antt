use Rattle.std.proofs.Common.{◌+◌, ◌≤◌, take}
use Rattle.atspi_message_in_place.specs.View.{envelope_at}
use Rattle.atspi_match.specs.RuleIndex.{nearby}
use Rattle.atspi_match.specs.Slots.{chosen}
use Rattle.atspi_match.proofs.IndexLemmas.{Finds}
use Rattle.atspi_match.proofs.slots.receiving.Given as goal

abbrev pub invariant-loop-place : goal.invariant-loop-place
invariant-loop-place l = record {
  finds : Finds l.found.items (chosen l.slots (take l.place-index l.places)) (envelope_at l.m) l.names;
  rose : l.initial.steps ≤ l.steps;
  few : l.steps ≤ l.initial.steps + nearby (envelope_at l.m) (chosen l.slots (take l.place-index l.places));
}
