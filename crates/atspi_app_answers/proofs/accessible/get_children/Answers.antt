use Rattle.std.proofs.Common.{ap, ◌∙◌}
use Rattle.std.proofs.lemmas.Result.{IfOk-weaker}
use Rattle.atspi_types.specs.DataView.{data_of}
use Rattle.atspi_marshal_in_place.specs.Items.{fields_data}
use Rattle.atspi_app_values.specs.Numbers.{numbered_references}
use Rattle.atspi_app_answers.proofs.Telling.{tells_children}
use Rattle.atspi_app_answers.proofs.accessible.get_children.Goals as goal

pub returns : goal.returns
returns c =
    IfOk-weaker c.references.result _ _
    (λ v h. tells_children c.args.tree.now c.args.bus.now c.args.node (fields_data c.args.args) (data_of v) (h ∙ ap (numbered_references c.args.bus.now) c.children.ensures))
    c.references.ensures
