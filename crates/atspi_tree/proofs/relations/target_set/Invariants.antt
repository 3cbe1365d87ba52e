use Rattle.std.proofs.Common.{◌≡◌, true, map, take}
use Rattle.std.specs.Ordering.{nat_cmp}
use Rattle.std.specs.BTreeSet.{contains}
use Rattle.atspi_tree_model.specs.Row.{Each}
use Rattle.atspi_tree.proofs.relations.target_set.Given as goal

abbrev pub invariant-loop-relation : goal.invariant-loop-relation
invariant-loop-relation l = Each (λ t. contains nat_cmp l.named t ≡ true) (map (λ r. r.1) (take l.relation-index l.relations))
