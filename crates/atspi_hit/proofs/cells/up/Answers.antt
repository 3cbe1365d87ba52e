use Rattle.std.proofs.Common.{refl, arith}
use Rattle.atspi_hit.proofs.Beside.{above}
use Rattle.atspi_hit.proofs.cells.up.Goals as goal

pub returns : goal.returns
returns c = above c.args.count c.args.columns c.args.at _ c.requires.some c.requires.cell (omega arith) refl
