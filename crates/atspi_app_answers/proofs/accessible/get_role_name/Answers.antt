use Rattle.std.proofs.lemmas.Result.{IfOk-weaker}
use Rattle.atspi_types.specs.DataView.{data_of}
use Rattle.atspi_marshal_in_place.specs.Items.{fields_data}
use Rattle.atspi_app_answers.proofs.Telling.{tells_role_name}
use Rattle.atspi_app_answers.proofs.accessible.get_role_name.Goals as goal

pub returns : goal.returns
returns c =
    IfOk-weaker c.role_text.result _ _ (λ v h. tells_role_name c.args.tree.now c.args.bus.now c.args.node (fields_data c.args.args) (data_of v) c.role.result c.role.ensures h) c.role_text.ensures
