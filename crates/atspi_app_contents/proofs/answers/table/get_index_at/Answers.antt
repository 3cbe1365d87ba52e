use Rattle.std.proofs.Common.{ℕ, List, length, ap, ◌∙◌, w32, SFits, rules}
use Rattle.std.proofs.lemmas.Int.{to_z-of_z}
use Rattle.atspi_marshal_in_place.specs.Items.{fields_data}
use Rattle.atspi_protocol.specs.objects.Tables.{index_or_none}
use Rattle.atspi_app_contents.specs.values.Places.{place_of}
use Rattle.atspi_app_contents.specs.values.Numbers.{cell_in}
use Rattle.atspi_app_contents.proofs.OfAnswers.Telling.{tells_index}
use Rattle.atspi_app_contents.proofs.answers.table.get_index_at.Goals as goal

pub returns : goal.returns
returns c = λ name.
    let first : SFits w32 c.first_signed.result = search rules in
    let at_first = to_z-of_z w32 c.first_signed.result first ∙ c.first_signed.ensures in
    let second : SFits w32 c.second_signed.result = search rules in
    let at_second = to_z-of_z w32 c.second_signed.result second ∙ c.second_signed.ensures in
    tells_index c.args.tree.now c.cells_of.ensures.lawful c.args.columns name c.args.node (fields_data c.args.args) _ c.place_of-row.result c.place_of-column.result (c.place_of-row.ensures ∙ ap place_of at_first) (c.place_of-column.ensures ∙ ap place_of at_second)
    (c.index_told.ensures ∙ ap index_or_none (c.cell_index.ensures.index ∙ ap (λ (k : ℕ). cell_in k c.args.columns c.place_of-row.result c.place_of-column.result) (ap (λ (l : List ℕ). length l) c.cells_of.ensures.are)))
