use Rattle.std.proofs.Common.{ℕ, List, length, ap, ◌∙◌, w32, SFits, rules}
use Rattle.std.proofs.lemmas.Int.{to_z-of_z}
use Rattle.atspi_marshal_in_place.specs.Items.{fields_data}
use Rattle.atspi_protocol.specs.objects.Tables.{index_or_none}
use Rattle.atspi_app_contents.specs.values.Places.{place_of}
use Rattle.atspi_app_contents.specs.values.Numbers.{row_in}
use Rattle.atspi_app_contents.proofs.OfAnswers.Telling.{tells_row}
use Rattle.atspi_app_contents.proofs.answers.table.get_row_at_index.Goals as goal

pub returns : goal.returns
returns c = λ name.
    let first : SFits w32 c.first_signed.result = search rules in
    let at_first = to_z-of_z w32 c.first_signed.result first ∙ c.first_signed.ensures in
    tells_row c.args.tree.now c.cells_of.ensures.lawful c.args.columns name c.args.node (fields_data c.args.args) _ c.place_of-index.result (c.place_of-index.ensures ∙ ap place_of at_first)
    (c.index_told.ensures ∙ ap index_or_none (c.row_of.ensures.row ∙ ap (λ (k : ℕ). row_in k c.args.columns c.place_of-index.result) (ap (λ (l : List ℕ). length l) c.cells_of.ensures.are)))
