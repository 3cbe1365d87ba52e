use Rattle.std.proofs.Common.{◌≡◌, ◌≤◌, drop}
use Rattle.atspi_marshal_in_place.specs.Items.{fields_data}
use Rattle.atspi_match.proofs.matching.argument.Given as goal

-- the arguments behind those passed are what is left
abbrev pub invariant-loop : goal.invariant-loop
invariant-loop l = (l.counter ≤ l.index) × (drop l.counter (fields_data l.m.body) ≡ fields_data l.rest)
