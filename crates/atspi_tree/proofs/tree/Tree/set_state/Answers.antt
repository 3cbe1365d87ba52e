use Rattle.std.proofs.Common.{refl, ap, sym, subst, ◌∙◌}
use Rattle.atspi_tree_model.specs.declared.step.Step.TheVariants.{SetState}
use Rattle.atspi_tree_model.specs.RowRules.{shapes, changed_shape}
use Rattle.atspi_tree_model.specs.Tree.{IsTree, after}
use Rattle.atspi_tree_model.proofs.RowRules.{shapes_sound}
use Rattle.atspi_tree_model.proofs.Kept.{changed_is_tree}
use Rattle.atspi_tree.proofs.Trees.{covering, holding, seen, shape, state_applies, table_change}
use Rattle.atspi_tree.proofs.Noted.{covers_change}
use Rattle.atspi_tree.proofs.tree.Tree.set_state.Goals as goal

pub invariant_of-self : goal.invariant_of-self
invariant_of-self c =
    let h = holding _ _ c.args.self.now c.self.invariant c.self.view_is in
    record {
      rows = after shapes c.args.self.now.rows (SetState c.args.node c.args.state c.args.on);
      held = table_change _ _ _ c.args.node (changed_shape (SetState c.args.node c.args.state c.args.on)) c.args.self.now h c.requires.there (λ a. refl)
          (c.set_states.ensures.put) c.set_states.ensures.size;
      lawful = subst (IsTree shapes (after shapes c.args.self.now.rows (SetState c.args.node c.args.state c.args.on))) (sym h.added)
          (changed_is_tree shapes shapes_sound c.args.self.now.rows c.args.self.now.added (SetState c.args.node c.args.state c.args.on) h.lawful (state_applies c.args.node c.args.state c.args.on c.args.self.now h.lawful c.requires.there c.requires.known));
      covered = covers_change c.self.inside.namers.sets c.args.node (changed_shape (SetState c.args.node c.args.state c.args.on)) (λ a noted. noted) c.args.self.now.rows (covering _ _ c.args.self.now c.self.invariant c.self.view_is);
    }

pub returns : goal.returns
unfolding invariant_of-self
returns c =
    let h = holding _ _ c.args.self.now c.self.invariant c.self.view_is in
    seen _ _ (invariant_of-self c) ∙ ap (shape (after shapes c.args.self.now.rows (SetState c.args.node c.args.state c.args.on))) h.added
