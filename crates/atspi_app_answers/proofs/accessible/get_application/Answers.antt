use Rattle.std.proofs.lemmas.Result.{IfOk-weaker}
use Rattle.atspi_types.specs.DataView.{data_of}
use Rattle.atspi_marshal_in_place.specs.Items.{fields_data}
use Rattle.atspi_app_answers.proofs.Telling.{tells_application}
use Rattle.atspi_app_answers.proofs.accessible.get_application.Goals as goal

pub returns : goal.returns
returns c =
    IfOk-weaker c.node_reference.result _ _ (λ v h. tells_application c.args.tree.now c.args.bus.now c.args.node (fields_data c.args.args) (data_of v) h) c.node_reference.ensures
