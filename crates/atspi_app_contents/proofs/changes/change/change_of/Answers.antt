use Rattle.std.proofs.Common.{sym, ◌∙◌, subst}
use Rattle.std.proofs.lemmas.Result.{IfOk-weaker}
use Rattle.atspi_marshal_in_place.specs.Items.{fields_data}
use Rattle.atspi_protocol.specs.declared.members.member.ObjectMember.{ObjectMember}
use Rattle.atspi_app_contents.specs.changes.inner.Changing.{ChangesActions}
use Rattle.atspi_app_contents.proofs.OfChanges.Known.{of_text, of_actions, of_children, last_acts}
use Rattle.atspi_app_contents.proofs.changes.change.change_of.Goals as goal

pub returns-then-changes_text : goal.returns-then-changes_text
returns-then-changes_text g c =
    IfOk-weaker c.change_text.result _ _ (λ steps h. of_text c.args.tree.now (g.C.Face.nodes c.args.texts.now) (g.D.Face.nodes c.args.actions.now) c.args.node c.args.member (fields_data c.args.args) steps c.in_ok-known.known c.in_ok-known.ensures h) c.change_text.ensures

pub returns-then-changes_children : goal.returns-then-changes_children
returns-then-changes_children g c = IfOk-weaker c.change_children.result _ _ (λ steps h. of_children c.args.tree.now (g.C.Face.nodes c.args.texts.now) (g.D.Face.nodes c.args.actions.now) c.args.node c.args.member (fields_data c.args.args) steps h) c.change_children.ensures

pub returns : goal.returns
returns g c =
    let is = last_acts c.args.member c.requires.member (sym c.changes_text.ensures ∙ c.if-changes_text.false) (sym c.changes_children.ensures ∙ c.if-changes_children.false) in
    IfOk-weaker c.do_action.result _ _
    (λ steps h. of_actions c.args.tree.now (g.C.Face.nodes c.args.texts.now) (g.D.Face.nodes c.args.actions.now) c.args.node c.args.member (fields_data c.args.args) steps c.in_ok-known-2.known c.in_ok-known-2.ensures (subst (λ (m : ObjectMember). ChangesActions c.args.tree.now c.in_ok-known-2.known c.args.node m (fields_data c.args.args) steps) (sym is) h))
    c.do_action.ensures
