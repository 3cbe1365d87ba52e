use Rattle.std.proofs.Common.{ℕ, List, ap, subst}
use Rattle.atspi_tree.specs.declared.cell.Cell.{Cell}
use Rattle.atspi_tree_model.proofs.Begins.{shapes_begin}
use Rattle.atspi_tree.specs.TreeShape.{root_alone}
use Rattle.atspi_tree.specs.Table.{ChangesAt, look_in}
use Rattle.atspi_tree.proofs.Trees.{seen, table_new}
use Rattle.atspi_tree.proofs.tree.Tree.new.Goals as goal

pub put_cell-requires : goal.put_cell-requires
put_cell-requires c = record { is_new = ap (λ (l : List (ℕ × Cell)). look_in l 0) c.new-cells.ensures.empty }

pub invariant_of-result : goal.invariant_of-result
invariant_of-result c = record {
  rows = (root_alone c.args.name).rows;
  held = table_new _ _ c.args.name c.new-cells.ensures.empty (subst (ChangesAt _ _ 0) (c.in_ok-root.ensures 0) c.in_ok-put_cell.ensures.put) c.in_ok-put_cell.ensures.size;
  lawful = shapes_begin c.args.name c.requires;
  covered = (tt, tt, tt);
}

pub returns : goal.returns
unfolding invariant_of-result
returns c = seen _ 0 (invariant_of-result c)
