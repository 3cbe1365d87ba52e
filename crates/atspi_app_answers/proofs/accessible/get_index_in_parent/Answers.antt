use Rattle.std.proofs.Common.{ap, ◌∙◌, rules, w32, SFits}
use Rattle.std.proofs.lemmas.Int.{to_z-of_z}
use Rattle.atspi_types.specs.DataView.{data_of}
use Rattle.atspi_marshal_in_place.specs.Items.{fields_data}
use Rattle.atspi_protocol.specs.members.Arguments.{int}
use Rattle.atspi_app_answers.proofs.Telling.{tells_index}
use Rattle.atspi_app_answers.proofs.accessible.get_index_in_parent.Goals as goal

pub returns : goal.returns
returns c =
    let fits : SFits w32 c.index_in_parent.result = search rules in
    tells_index c.args.tree.now c.args.bus.now c.args.node (fields_data c.args.args) (data_of c.signed.result) c.index_in_parent.result c.index_in_parent.ensures
    (c.signed.ensures ∙ ap int (to_z-of_z w32 c.index_in_parent.result fits))
