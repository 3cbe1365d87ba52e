use Rattle.std.proofs.Common.{ap}
use Rattle.std.specs.Option.{option_map}
use Rattle.atspi_tree_model.specs.Row.{ShapeRow}
use Rattle.atspi_tree.proofs.Trees.{holding, has_cell, read}
use Rattle.atspi_tree.proofs.tree.Tree.kinds.Goals as goal

pub index-requires : goal.index-requires
index-requires c = has_cell _ _ c.args.node c.args.self.now (holding _ _ c.args.self.now c.self.invariant c.self.view_is) c.requires

pub returns : goal.returns
returns c =
    let h = holding _ _ c.args.self.now c.self.invariant c.self.view_is in
    ap (option_map (λ (row : ShapeRow). row.kinds)) (read _ _ c.args.node c.args.self.now h c.requires c.index.result.now c.index.ensures).row
