use Rattle.std.proofs.Common.{arith}
use Rattle.std.proofs.Math.Nat.{mod-add-div'}
use Rattle.atspi_run_hit.proofs.placed.cell_count.Goals as goal

pub returns : goal.returns
returns c = omega (arith, mod-add-div' c.args.count c.args.columns)
