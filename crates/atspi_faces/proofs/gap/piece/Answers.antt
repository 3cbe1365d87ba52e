use Rattle.atspi_base.proofs.PlaceLemmas.{no_zero-take, no_zero-drop}
use Rattle.atspi_faces.proofs.gap.piece.Goals as goal

pub returns-clause-no_zero : goal.returns-clause-no_zero
returns-clause-no_zero c = no_zero-take _ _ (no_zero-take _ _ (no_zero-drop c.args.start c.args.bytes.now c.requires.part.no_zero))
