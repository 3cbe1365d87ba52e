use Rattle.std.proofs.Common.{sym, ap, refl, ◌∙◌}
use Rattle.std.proofs.lemmas.Result.{IfOk-weaker}
use Rattle.atspi_tree_model.specs.RowRules.{shapes}
use Rattle.atspi_tree_model.specs.Tree.{seat_of}
use Rattle.atspi_app_values.specs.Numbers.{parent_of}
use Rattle.atspi_app_values.proofs.Indexes.{seat_found, no_parent_told}
use Rattle.atspi_app_values.proofs.children.parent.Goals as goal

pub returns-in-Some : goal.returns-in-Some
returns-in-Some c =
    IfOk-weaker c.node_reference.result _ _
    (λ v h. h ∙ sym (ap (parent_of c.args.bus.now) (seat_found c.args.tree.now c.args.node c.in-Some.parent c.is_lawful.ensures c.in-Some.ensures)))
    c.node_reference.ensures

pub returns-in-None : goal.returns-in-None
returns-in-None c =
    IfOk-weaker c.registry_root.result _ _
    (λ v h. h ∙ sym (no_parent_told c.args.bus.now c.args.tree.now c.args.node c.in-None.ensures (seat_of shapes c.args.node c.args.tree.now.rows) refl))
    c.registry_root.ensures
