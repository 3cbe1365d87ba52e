use Rattle.std.proofs.Common.{refl, arith}
use Rattle.atspi_hit.proofs.Beside.{before}
use Rattle.atspi_hit.proofs.cells.left.Goals as goal

pub returns : goal.returns
returns c = before c.args.count c.args.columns c.args.at _ c.requires.some c.requires.cell (omega arith) refl
