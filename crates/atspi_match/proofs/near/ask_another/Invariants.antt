use Rattle.std.proofs.Common.{◌≡◌, false, take}
use Rattle.std.specs.List.{list_any}
use Rattle.atspi_message_in_place.specs.View.{envelope_at}
use Rattle.atspi_match.specs.RuleIndex.{asks_another}
use Rattle.atspi_match.proofs.near.ask_another.Given as goal

abbrev pub invariant-loop-condition : goal.invariant-loop-condition
invariant-loop-condition l = list_any (asks_another (envelope_at l.m)) (take l.condition-index l.conditions) ≡ false
