use Rattle.std.proofs.Common.{ap}
use Rattle.std.specs.Option.{option_map}
use Rattle.atspi_tree.specs.Table.{kept}
use Rattle.atspi_tree.proofs.Keys.{is_other}
use Rattle.atspi_tree.proofs.table.put_cell.Goals as goal

pub returns-in-Ok-clause-put : goal.returns-in-Ok-clause-put
returns-in-Ok-clause-put c = record {
  here = ap (option_map (kept c.args.node)) c.in-Ok.ensures.updates.1;
  others = λ m e. ap (option_map (kept m)) (c.in-Ok.ensures.updates.2 m (is_other c.args.node m e));
}
