use Rattle.std.proofs.Common.{refl, arith}
use Rattle.std.proofs.Math.Nat.{mod-lt}
use Rattle.atspi_hit.proofs.Beside.{behind}
use Rattle.atspi_hit.proofs.cells.right.Goals as goal

pub returns : goal.returns
returns c = behind c.args.count c.args.columns c.args.at _ c.requires.some c.requires.cell (let m = mod-lt c.args.at c.requires.some in omega arith) refl
