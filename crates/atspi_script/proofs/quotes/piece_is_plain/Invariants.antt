use Rattle.std.proofs.Common.{◌≡◌, take}
use Rattle.std.specs.List.{list_all}
use Rattle.atspi_script.specs.inner.Marks.{stands}
use Rattle.atspi_script.proofs.quotes.piece_is_plain.Given as goal

abbrev pub invariant-loop-i : goal.invariant-loop-i
invariant-loop-i l = l.plain ≡ list_all stands (take l.i l.bytes)
