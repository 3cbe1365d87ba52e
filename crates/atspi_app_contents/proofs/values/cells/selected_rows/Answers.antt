use Rattle.std.proofs.Common.{◌≡◌, ◌∙◌, arith}
use Rattle.atspi_types.specs.DataView.{all_data}
use Rattle.atspi_app_contents.proofs.OfValues.CellLemmas.{all_rows}
use Rattle.atspi_app_contents.proofs.values.cells.selected_rows.Goals as goal

pub returns : goal.returns
returns c =
    let last : c.loop-row.row ≡ c.row_count-row-end.result = omega (arith, c.loop-row.auto.row-end, c.loop-row-test.false) in
    all_rows c.args.tree.now.rows c.args.nodes.now c.args.columns (all_data c.loop-row.rows) c.loop-row.row (last ∙ c.row_count-row-end.ensures) c.loop-row.invariant
