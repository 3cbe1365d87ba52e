use Rattle.std.proofs.Common.{◌≡◌, ℕ, true, List, map, refl, ap, sym, subst, ◌∙◌}
use Rattle.std.specs.Ordering.{nat_cmp}
use Rattle.std.specs.BTreeSet.{contains}
use Rattle.atspi_tree_model.specs.declared.step.Step.TheVariants.{Relate}
use Rattle.atspi_tree_model.specs.Row.{Each, with_targets}
use Rattle.atspi_tree_model.specs.RowRules.{shapes, changed_shape}
use Rattle.atspi_tree_model.specs.Tree.{IsTree, after}
use Rattle.atspi_tree_model.proofs.RowRules.{shapes_sound}
use Rattle.atspi_tree_model.proofs.Kept.{changed_is_tree}
use Rattle.atspi_tree.specs.Namers.{notes}
use Rattle.atspi_tree.specs.Relations.{with_relations}
use Rattle.atspi_tree.specs.Table.{ChangesAt, with_row}
use Rattle.atspi_tree.proofs.Noted.{covers_relate, kept_covers}
use Rattle.atspi_tree.proofs.Trees.{covering, holding, seen, shape, step_there, table_change}
use Rattle.atspi_tree.proofs.Related.{related}
use Rattle.atspi_tree.proofs.tree.Tree.relate.Goals as goal

pub relations_of-old-requires : goal.relations_of-old-requires
relations_of-old-requires c = step_there (Relate c.args.node c.args.kind c.args.targets.now) c.args.self.now c.requires

pub invariant_of-self : goal.invariant_of-self
invariant_of-self c = record {
  rows = c.self.invariant.rows;
  held = c.self.invariant.held;
  lawful = c.self.invariant.lawful;
  covered = kept_covers c.self.inside.namers.sets c.note_each.new.self.sets c.note_each.ensures.kept c.self.invariant.rows c.self.invariant.covered;
}

pub invariant_of-self-2 : goal.invariant_of-self-2
invariant_of-self-2 c =
    let step = Relate c.args.node c.args.kind c.args.targets.now in
    let h = holding _ _ c.args.self.now c.self.invariant c.self.view_is in
    let there = step_there step c.args.self.now c.requires in
    let new = c.in_ok-relations.ensures ∙ ap (λ (ts : List ℕ). with_targets c.args.kind ts c.relations_of-old.result.now) c.as_slice.ensures in
    record {
      rows = after shapes c.args.self.now.rows step;
      held = table_change _ _ _ c.args.node (changed_shape step) c.args.self.now h there (λ a. refl)
          (λ y e. subst (λ (rs : List (ℕ × ℕ)). ChangesAt c.self.inside.cells.entries c.set_relations-lost.new.cells.entries c.args.node (with_row (with_relations rs) y))
          (new ∙ ap (with_targets c.args.kind c.args.targets.now) (related _ _ c.args.node c.args.self.now h there y e c.relations_of-old.result.now c.relations_of-old.ensures))
          (c.set_relations-lost.ensures.put y e)) c.set_relations-lost.ensures.size;
      lawful = subst (IsTree shapes (after shapes c.args.self.now.rows step)) (sym h.added)
          (changed_is_tree shapes shapes_sound c.args.self.now.rows c.args.self.now.added step h.lawful c.requires);
      covered = covers_relate c.self.inside.namers.sets c.note_each.new.self.sets c.forget_lost.new.self.sets c.in_ok-named.named c.args.self.now c.args.node c.args.kind c.args.targets.now c.relations_of-old.result.now
          h.lawful c.relations_of-old.ensures c.note_each.ensures.kept
          (subst (Each (λ t. notes c.note_each.new.self.sets t c.args.node ≡ true)) c.as_slice-2.ensures c.in_ok-note_each.ensures.noted)
          (subst (λ (rs : List (ℕ × ℕ)). Each (λ t. contains nat_cmp c.in_ok-named.named t ≡ true) (map (λ r. r.1) rs)) (c.pairs.ensures ∙ new) c.in_ok-named.ensures)
          c.forget_lost.ensures.others c.forget_lost.ensures.named (covering _ _ c.args.self.now c.self.invariant c.self.view_is);
    }

pub returns-clause-ok : goal.returns-clause-ok
unfolding invariant_of-self-2
returns-clause-ok c =
    let h = holding _ _ c.args.self.now c.self.invariant c.self.view_is in
    seen _ _ (invariant_of-self-2 c) ∙ ap (shape (after shapes c.args.self.now.rows (Relate c.args.node c.args.kind c.args.targets.now))) h.added
