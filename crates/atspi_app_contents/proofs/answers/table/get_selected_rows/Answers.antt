use Rattle.std.proofs.Common.{ℕ, List, map, ap, ◌∙◌}
use Rattle.atspi_types.specs.Kinds.{Kind, number, i32}
use Rattle.atspi_types.specs.Data.{Data, array_data, items_of}
use Rattle.atspi_types.specs.DataView.{data_of, all_data}
use Rattle.atspi_types.specs.declared.value.Value.TheVariants as values
use Rattle.atspi_types.proofs.DataLemmas.{data_of-Array}
use Rattle.atspi_types.proofs.KindLemmas.{kind_of-I32}
use Rattle.atspi_types.specs.declared.ty.Ty.TheVariants as types
use Rattle.atspi_protocol.specs.objects.Values.{count_data}
use Rattle.atspi_app_contents.specs.values.Numbers.{rows_selected}
use Rattle.atspi_app_contents.proofs.OfAnswers.Telling.{tells_rows}
use Rattle.atspi_app_contents.proofs.answers.table.get_selected_rows.Goals as goal

pub returns : goal.returns
returns c = λ name body.
    tells_rows c.args.tree.now c.cells_of.ensures.lawful c.args.columns name c.args.node body (data_of (values.Array types.I32 c.in_ok-rows.rows))
    (data_of-Array types.I32 c.in_ok-rows.rows ∙ ap (λ (k : Kind). array_data k (items_of (all_data c.in_ok-rows.rows))) kind_of-I32 ∙ ap (λ (ds : List Data). array_data (number i32) (items_of ds)) (c.in_ok-rows.ensures ∙ ap (λ (l : List ℕ). map count_data (rows_selected c.args.tree.now.rows l c.args.columns)) c.cells_of.ensures.are))
