use Rattle.std.proofs.Common.{◌∙◌}
use Rattle.atspi_tree.proofs.Trees.{seen, table_copy, view_of}
use Rattle.atspi_tree.proofs.Noted.{same_covers}
use Rattle.atspi_tree.proofs.tree.Tree.copy.Goals as goal

pub invariant_of-result : goal.invariant_of-result
invariant_of-result c = record {
  rows = c.self.invariant.rows;
  held = table_copy _ _ c.self.invariant.rows c.self.invariant.held c.in_ok-clone.ensures.cases;
  lawful = c.self.invariant.lawful;
  covered = same_covers c.self.inside.namers.sets c.in_ok-copy.field-0.sets c.in_ok-copy.ensures c.self.invariant.rows c.self.invariant.covered;
}

pub returns : goal.returns
unfolding invariant_of-result
returns c = seen _ _ (invariant_of-result c) ∙ (view_of _ _ c.self.invariant c.self.view_is)
