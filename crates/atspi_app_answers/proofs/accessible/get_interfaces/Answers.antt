use Rattle.std.proofs.lemmas.Result.{IfOk-weaker}
use Rattle.atspi_types.specs.DataView.{data_of}
use Rattle.atspi_marshal_in_place.specs.Items.{fields_data}
use Rattle.std.proofs.Common.{refl, ◌==◌}
use Rattle.atspi_app_answers.proofs.Telling.{tells_interfaces}
use Rattle.atspi_app_answers.proofs.accessible.get_interfaces.Goals as goal

pub returns : goal.returns
returns c =
    IfOk-weaker c.interface_names.result _ _ (λ v h. tells_interfaces c.args.tree.now c.args.bus.now c.args.node (fields_data c.args.args) (data_of v) (c.args.node == 0) c.kinds.result refl c.kinds.ensures h) c.interface_names.ensures
