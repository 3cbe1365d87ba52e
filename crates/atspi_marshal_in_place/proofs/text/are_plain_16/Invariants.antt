use Rattle.std.proofs.Common.{◌≡◌, take}
use Rattle.std.specs.List.{list_all}
use Rattle.atspi_marshal_in_place.specs.Passing.{is_plain}
use Rattle.atspi_marshal_in_place.proofs.text.are_plain_16.Given as goal

abbrev pub invariant-loop-i : goal.invariant-loop-i
invariant-loop-i l = l.plain ≡ list_all is_plain (take l.i l.bytes)
