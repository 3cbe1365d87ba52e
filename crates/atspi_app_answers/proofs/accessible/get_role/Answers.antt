use Rattle.atspi_types.specs.DataView.{data_of}
use Rattle.atspi_marshal_in_place.specs.Items.{fields_data}
use Rattle.atspi_app_answers.proofs.Telling.{tells_role}
use Rattle.atspi_app_answers.proofs.accessible.get_role.Goals as goal

pub returns : goal.returns
returns c =
    tells_role c.args.tree.now c.args.bus.now c.args.node (fields_data c.args.args) (data_of c.number.result) c.role.result c.role.ensures c.number.ensures
