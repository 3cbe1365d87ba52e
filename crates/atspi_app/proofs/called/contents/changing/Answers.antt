use Rattle.std.proofs.Common.{sym, ◌∙◌, w32, SFits, rules}
use Rattle.std.proofs.lemmas.Int.{to_z-of_z}
use Rattle.std.proofs.lemmas.Result.{IfOk-weaker}
use Rattle.atspi_marshal_in_place.specs.Items.{fields_data}
use Rattle.atspi_app_contents.proofs.OfAnswers.Kept.{keeps, keeps_text}
use Rattle.atspi_app_exported.specs.Parts.{faces_of}
use Rattle.atspi_app.proofs.OfCalled.Coming.{changed_comes, changes_come}
use Rattle.atspi_app.proofs.called.contents.changing.Goals as goal

pub change_of-requires-clause-kept : goal.change_of-requires-clause-kept
change_of-requires-clause-kept g c =
    keeps_text (g.C.Face.of_kind c.args.texts.now) (g.G.Face.of_kind c.args.columns.now) (g.D.Face.of_kind c.args.actions.now) (faces_of (g.C.Face.nodes c.args.texts.now) (g.G.Face.nodes c.args.columns.now) (g.D.Face.nodes c.args.actions.now)) c.args.node
    (keeps c.args.tree.now (faces_of (g.C.Face.nodes c.args.texts.now) (g.G.Face.nodes c.args.columns.now) (g.D.Face.nodes c.args.actions.now)) c.args.tree.now.added c.args.node (g.C.Face.of_kind c.args.texts.now) (g.G.Face.of_kind c.args.columns.now) (g.D.Face.of_kind c.args.actions.now) c.requires.lawful c.requires.there c.requires.kinds.texts c.requires.kinds.columns c.requires.kinds.actions)

pub returns-clause-comes : goal.returns-clause-comes
returns-clause-comes g c =
    let fits : SFits w32 c.args.id = search rules in
    IfOk-weaker c.settled.result _ _
    (λ x h. changed_comes c.args.tree.now (faces_of (g.C.Face.nodes c.args.texts.now) (g.G.Face.nodes c.args.columns.now) (g.D.Face.nodes c.args.actions.now)) c.args.node c.args.id c.args.member (fields_data c.args.args) c.in_ok-steps.steps x c.in_ok-steps.ensures (λ a is. h a (is ∙ sym (to_z-of_z w32 c.args.id fits))))
    c.settled.ensures

pub returns-clause-done : goal.returns-clause-done
returns-clause-done g c =
    let fits : SFits w32 c.args.id = search rules in
    IfOk-weaker c.settled.result _ _
    (λ x h. changes_come c.args.tree.now (faces_of (g.C.Face.nodes c.args.texts.now) (g.G.Face.nodes c.args.columns.now) (g.D.Face.nodes c.args.actions.now)) c.args.tree.now.added c.args.node c.args.id c.args.member (fields_data c.args.args) x c.requires.lawful c.requires.there
    (changed_comes c.args.tree.now (faces_of (g.C.Face.nodes c.args.texts.now) (g.G.Face.nodes c.args.columns.now) (g.D.Face.nodes c.args.actions.now)) c.args.node c.args.id c.args.member (fields_data c.args.args) c.in_ok-steps.steps x c.in_ok-steps.ensures (λ a is. h a (is ∙ sym (to_z-of_z w32 c.args.id fits)))))
    c.settled.ensures
