use Rattle.std.proofs.Common.{◌<◌, ◌/◌, arith}
use Rattle.atspi_app_contents.proofs.OfValues.CellLemmas.{whole_row, in_row}
use Rattle.atspi_app_contents.proofs.values.cells.cell.Goals as goal

pub overflow_mul-before : goal.overflow_mul-before
overflow_mul-before c =
    let n = c.if-row-rows.false in
    let e = c.row_count-rows.ensures in
    let l : c.args.row < c.args.cells / c.args.columns = omega (arith, n, e) in
    let w = whole_row c.args.cells c.args.columns c.args.row l in
    let few = c.requires in
    omega (arith, w, few)

pub overflow_add-index : goal.overflow_add-index
overflow_add-index c =
    let n = c.if-row-rows.false in
    let e = c.row_count-rows.ensures in
    let l : c.args.row < c.args.cells / c.args.columns = omega (arith, n, e) in
    let m = c.if-column-columns.false in
    let w = in_row c.args.cells c.args.columns c.args.row c.args.column l m in
    let few = c.requires in
    omega (arith, w, few)
