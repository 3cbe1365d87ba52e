use Rattle.std.proofs.Common.{◌≡◌, ◌++◌}
use Rattle.atspi_match.proofs.rule_groups.append_places.Given as goal

abbrev pub invariant-loop-place : goal.invariant-loop-place
invariant-loop-place l = l.places.items ++ l.place-iterator ≡ l.initial.places.items ++ l.initial.place-iterator
