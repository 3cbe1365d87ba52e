use Rattle.std.proofs.Common.{◌≤◌, chars}
use Rattle.std.specs.Str.Iter.{chars_rest}
use Rattle.atspi_units.proofs.LineLemmas.{IsInLine}
use Rattle.atspi_units.proofs.unit.line_at.Given as goal

abbrev pub invariant-loop-c : goal.invariant-loop-c
invariant-loop-c l = IsInLine (chars l.text) (chars_rest l.c-iterator) l.start l.end × (l.start ≤ l.at)
