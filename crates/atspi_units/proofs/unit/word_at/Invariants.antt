use Rattle.std.proofs.Common.{◌≤◌, chars}
use Rattle.unicode_segmentation.specs.Iter.{word_bounds_left}
use Rattle.atspi_units.proofs.WordLemmas.{IsAmongPieces}
use Rattle.atspi_units.proofs.unit.word_at.Given as goal

abbrev pub invariant-loop-piece : goal.invariant-loop-piece
invariant-loop-piece l = IsAmongPieces (chars l.text) (word_bounds_left l.piece-iterator) l.start × (l.start ≤ l.at)
