use Rattle.std.proofs.Common.{chars}
use Rattle.atspi_faces.proofs.SideLemmas.{noted_new}
use Rattle.atspi_faces.proofs.run.Run.copy_of.Goals as goal

pub grow-requires-clause-noted : goal.grow-requires-clause-noted
grow-requires-clause-noted c = noted_new (chars c.as_str-text.result.now) c.count-chars.result c.new-front.result c.new-front.ensures
