use Rattle.std.proofs.Common.{chars}
use Rattle.std.specs.Str.Iter.{chars_rest}
use Rattle.atspi_units.proofs.StretchLemmas.{IsScanned, IsOpened}
use Rattle.atspi_units.proofs.stretch.stretch_at.Given as goal

abbrev pub invariant-loop-c : goal.invariant-loop-c
invariant-loop-c l =
    IsScanned (chars l.window) (chars_rest l.c-iterator) l.here l.last × IsOpened l.unit (chars l.window) l.reaches l.at l.from
