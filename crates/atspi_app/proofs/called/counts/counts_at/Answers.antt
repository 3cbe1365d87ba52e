use Rattle.atspi_app_exported.specs.Parts.{faces_of}
use Rattle.atspi_app.proofs.OfCalled.HasCounts.{are_faces}
use Rattle.atspi_app.proofs.called.counts.counts_at.Goals as goal

pub returns-clause-faces : goal.returns-clause-faces
returns-clause-faces g c = are_faces _ _ _ (faces_of (g.C.Face.nodes c.args.texts.now) (g.G.Face.nodes c.args.columns.now) (g.D.Face.nodes c.args.actions.now)) c.requires c.kind.ensures.contents c.kind-2.ensures.contents c.kind-3.ensures.contents
