use Rattle.atspi_types.specs.DataView.{data_of}
use Rattle.atspi_marshal_in_place.specs.Items.{fields_data}
use Rattle.atspi_app_answers.proofs.Telling.{tells_attributes}
use Rattle.atspi_app_answers.proofs.accessible.get_attributes.Goals as goal

pub returns : goal.returns
returns c =
    tells_attributes c.args.tree.now c.args.bus.now c.args.node (fields_data c.args.args) (data_of c.no_pairs.result) c.no_pairs.ensures
