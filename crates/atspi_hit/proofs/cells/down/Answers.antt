use Rattle.std.proofs.Common.{refl, arith}
use Rattle.std.proofs.Math.Nat.{mod-add-div'}
use Rattle.atspi_hit.proofs.Beside.{under}
use Rattle.atspi_hit.proofs.cells.down.Goals as goal

pub returns : goal.returns
returns c = under c.args.count c.args.columns c.args.at _ c.requires.some (omega (arith, mod-add-div' c.args.count c.args.columns)) refl
