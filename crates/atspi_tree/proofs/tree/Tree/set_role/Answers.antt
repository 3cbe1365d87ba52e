use Rattle.std.proofs.Common.{refl, ap, sym, subst, ◌∙◌}
use Rattle.atspi_tree_model.specs.declared.step.Step.TheVariants.{SetRole}
use Rattle.atspi_tree_model.specs.RowRules.{shapes, changed_shape}
use Rattle.atspi_tree_model.specs.Tree.{IsTree, after}
use Rattle.atspi_tree_model.proofs.RowRules.{shapes_sound}
use Rattle.atspi_tree_model.proofs.Kept.{changed_is_tree}
use Rattle.atspi_tree.proofs.Trees.{covering, holding, seen, shape, step_there, table_change}
use Rattle.atspi_tree.proofs.Noted.{covers_change}
use Rattle.atspi_tree.proofs.tree.Tree.set_role.Goals as goal

pub invariant_of-self : goal.invariant_of-self
invariant_of-self c =
    let h = holding _ _ c.args.self.now c.self.invariant c.self.view_is in
    record {
      rows = after shapes c.args.self.now.rows (SetRole c.args.node c.args.role);
      held = table_change _ _ _ c.args.node (changed_shape (SetRole c.args.node c.args.role)) c.args.self.now h (step_there (SetRole c.args.node c.args.role) c.args.self.now c.requires) (λ a. refl)
          (c.set_role.ensures.put) c.set_role.ensures.size;
      lawful = subst (IsTree shapes (after shapes c.args.self.now.rows (SetRole c.args.node c.args.role))) (sym h.added)
          (changed_is_tree shapes shapes_sound c.args.self.now.rows c.args.self.now.added (SetRole c.args.node c.args.role) h.lawful c.requires);
      covered = covers_change c.self.inside.namers.sets c.args.node (changed_shape (SetRole c.args.node c.args.role)) (λ a noted. noted) c.args.self.now.rows (covering _ _ c.args.self.now c.self.invariant c.self.view_is);
    }

pub returns : goal.returns
unfolding invariant_of-self
returns c =
    let h = holding _ _ c.args.self.now c.self.invariant c.self.view_is in
    seen _ _ (invariant_of-self c) ∙ ap (shape (after shapes c.args.self.now.rows (SetRole c.args.node c.args.role))) h.added
