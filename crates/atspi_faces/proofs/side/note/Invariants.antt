use Rattle.std.proofs.Common.{◌-◌, reverse, chars}
use Rattle.atspi_faces.specs.Sides.{IsPlace, AreNoted}
use Rattle.atspi_faces.proofs.side.note.Given as goal

abbrev pub invariant-loop-last : goal.invariant-loop-last
invariant-loop-last l = IsPlace (chars l.text) l.last × AreNoted (chars l.text) l.last.chars (reverse l.places.items)

abbrev pub decreases-loop-last : goal.decreases-loop-last
decreases-loop-last l = l.count - l.last.chars
