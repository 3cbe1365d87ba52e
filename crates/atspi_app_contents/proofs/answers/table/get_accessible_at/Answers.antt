use Rattle.std.proofs.Common.{ℕ, List, length, ap, ◌∙◌, w32, SFits, rules}
use Rattle.std.proofs.lemmas.Int.{to_z-of_z}
use Rattle.std.proofs.lemmas.Result.{IfOk-weaker}
use Rattle.atspi_types.specs.DataView.{data_of}
use Rattle.atspi_marshal_in_place.specs.Items.{fields_data}
use Rattle.atspi_app_values.specs.Numbers.{numbered_or_null}
use Rattle.atspi_app_contents.specs.values.Places.{place_of}
use Rattle.atspi_app_contents.specs.values.Numbers.{node_at, cell_in}
use Rattle.atspi_app_contents.proofs.OfAnswers.Telling.{tells_accessible}
use Rattle.atspi_app_contents.proofs.answers.table.get_accessible_at.Goals as goal

pub returns : goal.returns
returns c =
    let first : SFits w32 c.first_signed.result = search rules in
    let at_first = to_z-of_z w32 c.first_signed.result first ∙ c.first_signed.ensures in
    let second : SFits w32 c.second_signed.result = search rules in
    let at_second = to_z-of_z w32 c.second_signed.result second ∙ c.second_signed.ensures in
    IfOk-weaker c.reference_or_null.result _ _
    (λ v h. tells_accessible c.args.tree.now c.cells_of.ensures.lawful c.args.columns c.args.bus.now c.args.node (fields_data c.args.args) (data_of v) c.place_of-row.result c.place_of-column.result (c.place_of-row.ensures ∙ ap place_of at_first) (c.place_of-column.ensures ∙ ap place_of at_second)
    (h ∙ ap (numbered_or_null c.args.bus.now) (c.cell_at.ensures ∙ ap (λ (l : List ℕ). node_at l (cell_in (length l) c.args.columns c.place_of-row.result c.place_of-column.result)) c.cells_of.ensures.are)))
    c.reference_or_null.ensures
