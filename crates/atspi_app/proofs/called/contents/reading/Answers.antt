use Rattle.atspi_app_contents.proofs.OfAnswers.Kept.{keeps}
use Rattle.atspi_app_exported.specs.Parts.{faces_of}
use Rattle.atspi_app.proofs.called.contents.reading.Goals as goal

pub contents-requires-clause-kept : goal.contents-requires-clause-kept
contents-requires-clause-kept g c = keeps c.args.tree.now (faces_of (g.C.Face.nodes c.args.texts.now) (g.G.Face.nodes c.args.columns.now) (g.D.Face.nodes c.args.actions.now)) c.args.tree.now.added c.args.node (g.C.Face.of_kind c.args.texts.now) (g.G.Face.of_kind c.args.columns.now) (g.D.Face.of_kind c.args.actions.now) c.requires.lawful c.requires.there c.requires.kinds.texts c.requires.kinds.columns c.requires.kinds.actions
