use Rattle.std.proofs.Common.{ℤ, ap, ◌∙◌, rules, w32, SFits}
use Rattle.std.proofs.lemmas.Result.{IfOk-weaker}
use Rattle.std.proofs.lemmas.Int.{to_z-of_z}
use Rattle.atspi_types.specs.DataView.{data_of}
use Rattle.atspi_marshal_in_place.specs.Items.{fields_data}
use Rattle.atspi_protocol.specs.objects.Children as children
use Rattle.atspi_tree.specs.TreeShape.{children_of}
use Rattle.atspi_app_values.specs.Numbers.{numbered_or_null}
use Rattle.atspi_app_answers.proofs.Telling.{tells_child}
use Rattle.atspi_app_answers.proofs.accessible.get_child_at_index.Goals as goal

pub returns : goal.returns
returns c =
    let fits : SFits w32 c.first_signed.result = search rules in
    IfOk-weaker c.reference_or_null.result _ _
    (λ v h. tells_child c.args.tree.now c.args.bus.now c.args.node (fields_data c.args.args) (data_of v) c.first_signed.result c.first_signed.ensures
    (h ∙ ap (numbered_or_null c.args.bus.now) (c.child_at.ensures ∙ ap (λ (z : ℤ). children.at z (children_of c.args.node c.args.tree.now)) (to_z-of_z w32 c.first_signed.result fits))))
    c.reference_or_null.ensures
