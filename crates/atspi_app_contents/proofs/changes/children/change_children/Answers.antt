use Rattle.std.proofs.Common.{sym, subst}
use Rattle.std.proofs.lemmas.Result.{IfOk-weaker}
use Rattle.atspi_marshal_in_place.specs.Items.{fields_data}
use Rattle.atspi_protocol.specs.declared.members.member.ObjectMember.{ObjectMember}
use Rattle.atspi_app_contents.specs.changes.inner.Changing.{ChangesChildren}
use Rattle.atspi_app_contents.proofs.changes.children.change_children.Goals as goal

pub returns-in-SelectAll : goal.returns-in-SelectAll
returns-in-SelectAll c =
    IfOk-weaker c.select_all.result _ _ (λ steps h. subst (λ (m : ObjectMember). ChangesChildren c.args.tree.now c.args.node m (fields_data c.args.args) steps) (sym c.in-SelectAll.is) (h (fields_data c.args.args))) c.select_all.ensures

pub returns-in-ClearSelection : goal.returns-in-ClearSelection
returns-in-ClearSelection c =
    IfOk-weaker c.clear_selection.result _ _ (λ steps h. subst (λ (m : ObjectMember). ChangesChildren c.args.tree.now c.args.node m (fields_data c.args.args) steps) (sym c.in-ClearSelection.is) (h (fields_data c.args.args))) c.clear_selection.ensures
