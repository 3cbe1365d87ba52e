use Rattle.std.proofs.Common.{ℕ, List, refl, ap, sym, subst, ◌∙◌}
use Rattle.atspi_tree_model.specs.declared.step.Step.TheVariants.{SetDescription}
use Rattle.atspi_tree_model.specs.RowRules.{shapes, changed_shape}
use Rattle.atspi_tree_model.specs.Tree.{IsTree, after}
use Rattle.atspi_tree_model.proofs.RowRules.{shapes_sound}
use Rattle.atspi_tree_model.proofs.Kept.{changed_is_tree}
use Rattle.atspi_tree.specs.Table.{ChangesAt, with_row}
use Rattle.atspi_tree.proofs.Trees.{covering, holding, seen, shape, step_there, table_change}
use Rattle.atspi_tree.proofs.Noted.{covers_change}
use Rattle.atspi_tree.proofs.tree.Tree.describe.Goals as goal

pub invariant_of-self : goal.invariant_of-self
invariant_of-self c =
    let h = holding _ _ c.args.self.now c.self.invariant c.self.view_is in
    record {
      rows = after shapes c.args.self.now.rows (SetDescription c.args.node c.args.text.now);
      held = table_change _ _ _ c.args.node (changed_shape (SetDescription c.args.node c.args.text.now)) c.args.self.now h (step_there (SetDescription c.args.node c.args.text.now) c.args.self.now c.requires) (λ a. refl)
          (λ y e. subst (λ (x : List ℕ). ChangesAt c.self.inside.cells.entries c.set_description.new.cells.entries c.args.node (with_row (changed_shape (SetDescription c.args.node x)) y)) c.in_ok-description.ensures (c.set_description.ensures.put y e)) c.set_description.ensures.size;
      lawful = subst (IsTree shapes (after shapes c.args.self.now.rows (SetDescription c.args.node c.args.text.now))) (sym h.added)
          (changed_is_tree shapes shapes_sound c.args.self.now.rows c.args.self.now.added (SetDescription c.args.node c.args.text.now) h.lawful c.requires);
      covered = covers_change c.self.inside.namers.sets c.args.node (changed_shape (SetDescription c.args.node c.args.text.now)) (λ a noted. noted) c.args.self.now.rows (covering _ _ c.args.self.now c.self.invariant c.self.view_is);
    }

pub returns-clause-ok : goal.returns-clause-ok
unfolding invariant_of-self
returns-clause-ok c =
    let h = holding _ _ c.args.self.now c.self.invariant c.self.view_is in
    seen _ _ (invariant_of-self c) ∙ ap (shape (after shapes c.args.self.now.rows (SetDescription c.args.node c.args.text.now))) h.added
