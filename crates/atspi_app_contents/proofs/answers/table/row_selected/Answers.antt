use Rattle.std.proofs.Common.{ℕ, List, ap, ◌∙◌, w32, SFits, rules}
use Rattle.std.proofs.lemmas.Int.{to_z-of_z}
use Rattle.atspi_types.specs.Data.{boolean_data}
use Rattle.atspi_types.specs.DataView.{data_of}
use Rattle.atspi_types.specs.declared.value.Value.TheVariants as values
use Rattle.atspi_types.proofs.DataLemmas.{data_of-Bool}
use Rattle.atspi_marshal_in_place.specs.Items.{fields_data}
use Rattle.atspi_app_contents.specs.values.Places.{place_of}
use Rattle.atspi_app_contents.specs.values.Numbers.{is_selected_row_there}
use Rattle.atspi_app_contents.proofs.OfAnswers.Telling.{tells_row_selected}
use Rattle.atspi_app_contents.proofs.answers.table.row_selected.Goals as goal

pub returns : goal.returns
returns c = λ name.
    let first : SFits w32 c.first_signed.result = search rules in
    let at_first = to_z-of_z w32 c.first_signed.result first ∙ c.first_signed.ensures in
    tells_row_selected c.args.tree.now c.cells_of.ensures.lawful c.args.columns name c.args.node (fields_data c.args.args) (data_of (values.Bool c.is_row_selected.result)) c.place_of-row.result (c.place_of-row.ensures ∙ ap place_of at_first)
    (data_of-Bool c.is_row_selected.result ∙ ap boolean_data (c.is_row_selected.ensures ∙ ap (λ (l : List ℕ). is_selected_row_there c.args.tree.now.rows l c.args.columns c.place_of-row.result) c.cells_of.ensures.are))
