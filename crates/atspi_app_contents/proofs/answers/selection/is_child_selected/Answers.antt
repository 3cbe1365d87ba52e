use Rattle.std.proofs.Common.{ap, ◌∙◌, w32, SFits, rules}
use Rattle.std.proofs.lemmas.Int.{to_z-of_z}
use Rattle.atspi_types.specs.DataView.{data_of}
use Rattle.atspi_types.specs.Data.{boolean_data}
use Rattle.atspi_marshal_in_place.specs.Items.{fields_data}
use Rattle.atspi_types.specs.declared.value.Value.TheVariants as values
use Rattle.atspi_types.proofs.DataLemmas.{data_of-Bool}
use Rattle.atspi_app_contents.specs.values.Numbers.{is_selected_there}
use Rattle.atspi_app_contents.proofs.OfAnswers.Telling.{tells_child_selected}
use Rattle.atspi_app_contents.proofs.answers.selection.is_child_selected.Goals as goal

pub returns : goal.returns
returns c = λ name.
    let first : SFits w32 c.first_signed.result = search rules in
    let at = to_z-of_z w32 c.first_signed.result first ∙ c.first_signed.ensures in
    tells_child_selected c.args.tree.now c.is_lawful.ensures name c.args.node (fields_data c.args.args) (data_of (values.Bool c.is_selected_there.result)) _ at (data_of-Bool c.is_selected_there.result ∙ ap boolean_data (c.is_selected_there.ensures ∙ ap (is_selected_there c.args.tree.now.rows) c.child_at.ensures))
