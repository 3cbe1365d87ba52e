use Rattle.std.proofs.Common.{ap, sym, subst, ◌∙◌}
use Rattle.atspi_tree_model.specs.declared.step.Step.TheVariants.{Remove}
use Rattle.atspi_tree_model.specs.Forest.{take_out}
use Rattle.atspi_tree_model.specs.RowRules.{shapes}
use Rattle.atspi_tree_model.specs.Tree.{IsTree, after, is_shape}
use Rattle.atspi_tree_model.proofs.RowRules.{shapes_sound}
use Rattle.atspi_tree_model.proofs.Kept.{removed_is_tree}
use Rattle.atspi_tree.specs.Namers.{Covers}
use Rattle.atspi_tree.proofs.Leaf.{clean, is_kept, is_listed, leaf_forgets, leaf_picked, not_its_own, taken}
use Rattle.atspi_tree.proofs.Noted.{covers_leaf}
use Rattle.atspi_tree.proofs.Rehung.{not_root}
use Rattle.atspi_tree.proofs.Trees.{covering, holding, seen, shape}
use Rattle.atspi_tree.proofs.tree.Tree.take_leaf.Goals as goal

pub unreachable-requires : goal.unreachable-requires
unreachable-requires c =
    not_root _ _ c.args.node c.args.self.now (holding _ _ c.args.self.now c.self.invariant c.self.view_is) c.requires.applies.there c.in_default.ensures c.requires.applies.not_root

pub prune-relations-requires-clause-once : goal.prune-relations-requires-clause-once
prune-relations-requires-clause-once c =
    is_listed _ _ c.args.node c.in-Some.parent c.args.self.now (holding _ _ c.args.self.now c.self.invariant c.self.view_is) c.requires.applies c.in-Some.ensures

pub prune-relations-requires-clause-apart : goal.prune-relations-requires-clause-apart
prune-relations-requires-clause-apart c =
    not_its_own _ _ c.args.node c.in-Some.parent c.args.self.now (holding _ _ c.args.self.now c.self.invariant c.self.view_is) c.requires.applies c.in-Some.ensures

pub prune-relations-requires-clause-there : goal.prune-relations-requires-clause-there
prune-relations-requires-clause-there c =
    is_kept _ _ c.args.node c.in-Some.parent c.args.self.now (holding _ _ c.args.self.now c.self.invariant c.self.view_is) c.requires.applies c.in-Some.ensures

pub forget_named-requires : goal.forget_named-requires
forget_named-requires c m out =
    clean _ _ c.args.node c.in-Some.parent c.args.self.now (holding _ _ c.args.self.now c.self.invariant c.self.view_is) c.requires.applies c.in-Some.ensures
    c.requires.leaf c.prune-relations.new.cells.entries c.prune-relations.ensures.put c.prune-relations.ensures.size
    c.self.inside.namers.sets c.forget_each.new.self.sets c.forget_each.ensures (covering _ _ c.args.self.now c.self.invariant c.self.view_is) m (sym (c.take-namers.ensures.nodes m) ∙ out)

pub invariant_of-self : goal.invariant_of-self
invariant_of-self c =
    let t = c.args.self.now in
    let h = holding _ _ t c.self.invariant c.self.view_is in
    record {
      rows = after shapes t.rows (Remove c.args.node);
      held = taken _ _ c.args.node c.in-Some.parent t h c.requires.applies c.in-Some.ensures
          c.requires.leaf c.prune-relations.new.cells.entries c.prune-relations.ensures.put c.prune-relations.ensures.size
          c.forget_named.new.cells.entries c.forget_named.ensures.put c.forget_named.ensures.size;
      lawful = subst (IsTree shapes (after shapes t.rows (Remove c.args.node))) (sym h.added)
          (removed_is_tree shapes shapes_sound t.rows t.added c.args.node h.lawful c.requires.applies);
      covered = subst (Covers c.take-namers.new.self.sets)
          (sym (leaf_forgets t.rows (take_out (is_shape c.args.node) t.rows) c.args.node (leaf_picked t c.args.node h.lawful c.requires.applies.there c.requires.leaf)))
          (covers_leaf c.self.inside.namers.sets c.forget_each.new.self.sets c.take-namers.new.self.sets t.rows c.args.node c.forget_each.ensures c.take-namers.ensures.rest
          (covering _ _ t c.self.invariant c.self.view_is));
    }

pub returns-clause-taken : goal.returns-clause-taken
unfolding invariant_of-self
returns-clause-taken c =
    let h = holding _ _ c.args.self.now c.self.invariant c.self.view_is in
    seen _ _ (invariant_of-self c) ∙ ap (shape (after shapes c.args.self.now.rows (Remove c.args.node))) h.added
