use Rattle.std.proofs.Common.{ℕ, ◌*◌, ap, arith}
use Rattle.std.proofs.Math.Nat.{div-mul-le_self}
use Rattle.atspi_app_contents.proofs.values.cells.is_cell.Goals as goal

pub overflow_mul-whole : goal.overflow_mul-whole
overflow_mul-whole c =
    let d = div-mul-le_self c.args.cells c.args.columns in
    let e = ap (λ (k : ℕ). k * c.args.columns) c.row_count-rows.ensures in
    let few = c.requires in
    omega (arith, d, e, few)
