use Rattle.std.proofs.Common.{◌≡◌, ◌<◌, true, sym, subst}
use Rattle.std.proofs.lemmas.Bool.{ne_eqb}
use Rattle.atspi_tree_model.specs.declared.step.Step.TheVariants.{Remove}
use Rattle.atspi_tree_model.specs.Forest.{count, has}
use Rattle.atspi_tree_model.specs.RowRules.{shapes}
use Rattle.atspi_tree_model.specs.Tree.{after, is_shape}
use Rattle.atspi_tree.specs.TreeShape.{TreeShape}
use Rattle.atspi_tree.proofs.Descent.{fewer, inside_there, leaf_removes, parent_inside, removing_first, removing_next}
use Rattle.atspi_tree.proofs.tree.Tree.take_out.Goals as goal

pub loop-leaf-init : goal.loop-leaf-init
loop-leaf-init c =
    removing_first c.args.self.now c.args.node c.last_leaf-leaf.result c.last_leaf-leaf.ensures.lawful c.requires c.last_leaf-leaf.ensures.inside c.last_leaf-leaf.ensures.leaf

pub take_leaf-parent-requires-clause-applies : goal.take_leaf-parent-requires-clause-applies
take_leaf-parent-requires-clause-applies c = leaf_removes c.args.self.now c.loop-leaf.self c.args.node c.loop-leaf.leaf c.loop-leaf.invariant

pub last_leaf-leaf-requires-in-loop-leaf : goal.last_leaf-leaf-requires-in-loop-leaf
last_leaf-leaf-requires-in-loop-leaf c =
    subst (λ (s : TreeShape). has (is_shape c.take_leaf-parent.result) s.rows ≡ true) (sym c.take_leaf-parent.ensures.taken)
    (inside_there (after shapes c.loop-leaf.self.rows (Remove c.loop-leaf.leaf)) c.args.node c.take_leaf-parent.result
    (parent_inside c.args.self.now c.loop-leaf.self c.args.node c.loop-leaf.leaf c.loop-leaf.invariant (ne_eqb c.loop-leaf.leaf c.args.node c.loop-leaf-test.true) c.take_leaf-parent.result c.take_leaf-parent.ensures.parent))

pub loop-leaf-smaller : goal.loop-leaf-smaller
loop-leaf-smaller c =
    subst (λ (s : TreeShape). count (λ row. true) s.rows < count (λ row. true) c.loop-leaf.self.rows) (sym c.take_leaf-parent.ensures.taken)
    (fewer c.args.self.now c.loop-leaf.self c.args.node c.loop-leaf.leaf c.loop-leaf.invariant (ne_eqb c.loop-leaf.leaf c.args.node c.loop-leaf-test.true))

pub loop-leaf-preserved : goal.loop-leaf-preserved
loop-leaf-preserved c =
    removing_next c.args.self.now c.loop-leaf.self c.take_leaf-parent.new.self c.args.node c.loop-leaf.leaf c.take_leaf-parent.result c.last_leaf-leaf-in-loop-leaf.result
    c.loop-leaf.invariant (ne_eqb c.loop-leaf.leaf c.args.node c.loop-leaf-test.true) c.take_leaf-parent.ensures.parent c.take_leaf-parent.ensures.taken
    c.last_leaf-leaf-in-loop-leaf.ensures.inside c.last_leaf-leaf-in-loop-leaf.ensures.leaf
