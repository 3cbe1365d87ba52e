use Rattle.std.proofs.Common.{ap, sym, subst, ◌∙◌}
use Rattle.atspi_tree_model.specs.declared.step.Step.TheVariants.{Add}
use Rattle.atspi_tree_model.specs.RowRules.{shapes}
use Rattle.atspi_tree_model.specs.Tree.{IsTree, after}
use Rattle.atspi_tree_model.proofs.RowRules.{shapes_sound}
use Rattle.atspi_tree_model.proofs.Kept.{added_is_tree}
use Rattle.atspi_tree.specs.Table.{ChangesAt}
use Rattle.atspi_tree.proofs.Trees.{covering, holding, seen, view_of, shape, is_new, in_range, new_cell, table_add, table_back}
use Rattle.atspi_tree.proofs.Noted.{covers_add}
use Rattle.atspi_tree.proofs.tree.Tree.add.Goals as goal

pub put_cell-requires : goal.put_cell-requires
put_cell-requires c =
    let h = holding _ _ c.args.self.now c.self.invariant c.self.view_is in
    record { is_new = h.held.only c.args.node (is_new _ _ c.args.node c.args.parent c.args.index c.args.seed.now c.args.self.now h c.requires) }

pub insert_child-requires : goal.insert_child-requires
insert_child-requires c =
    let h = holding _ _ c.args.self.now c.self.invariant c.self.view_is in
    record { in_range = in_range _ _ _ c.args.node c.args.parent c.args.index c.args.seed.now c.args.self.now _ h c.requires c.in_ok-put_cell.ensures.put }

pub invariant_of-self-in-Ok : goal.invariant_of-self-in-Ok
invariant_of-self-in-Ok c =
    let h = holding _ _ c.args.self.now c.self.invariant c.self.view_is in
    record {
      rows = after shapes c.args.self.now.rows (Add c.args.node c.args.parent c.args.index c.args.seed.now);
      held = table_add _ _ _ _ c.args.node c.args.parent c.args.index c.args.seed.now c.args.self.now h c.requires
          (subst (ChangesAt _ _ c.args.node) (new_cell c.in_ok-cell.cell c.args.node c.args.parent c.in_ok-name.name c.first_kinds.result c.args.seed.now c.in_ok-cell.ensures c.in_ok-name.ensures c.first_kinds.ensures) c.in_ok-put_cell.ensures.put)
          c.in_ok-put_cell.ensures.size c.in-Ok.ensures.put c.in-Ok.ensures.size;
      lawful = subst (IsTree shapes (after shapes c.args.self.now.rows (Add c.args.node c.args.parent c.args.index c.args.seed.now))) (sym c.requires.next)
          (added_is_tree shapes shapes_sound c.args.self.now.rows c.args.self.now.added c.args.node c.args.parent c.args.index c.args.seed.now h.lawful c.requires);
      covered = covers_add c.self.inside.namers.sets c.args.parent c.args.index c.args.node c.args.seed.now c.args.self.now.rows (covering _ _ c.args.self.now c.self.invariant c.self.view_is);
    }

pub returns-in-Ok-clause-ok : goal.returns-in-Ok-clause-ok
unfolding invariant_of-self-in-Ok
returns-in-Ok-clause-ok c =
    seen _ _ (invariant_of-self-in-Ok c)
    ∙ ap (shape (after shapes c.args.self.now.rows (Add c.args.node c.args.parent c.args.index c.args.seed.now))) c.requires.next

pub invariant_of-self-in-Err : goal.invariant_of-self-in-Err
invariant_of-self-in-Err c =
    let h = holding _ _ c.args.self.now c.self.invariant c.self.view_is in
    record {
      rows = c.self.invariant.rows;
      held = table_back _ _ _ _ c.self.invariant.rows c.args.node _ c.remove.result c.self.invariant.held
          (h.held.only c.args.node (is_new _ _ c.args.node c.args.parent c.args.index c.args.seed.now c.args.self.now h c.requires))
          c.in_ok-put_cell.ensures.put c.in_ok-put_cell.ensures.size c.in-Err.ensures.err c.in-Err.ensures.size
          c.remove.ensures.value c.remove.ensures.updates.0 c.remove.ensures.len;
      lawful = c.self.invariant.lawful;
      covered = c.self.invariant.covered;
    }

pub returns-in-Err-clause-err : goal.returns-in-Err-clause-err
unfolding invariant_of-self-in-Err
returns-in-Err-clause-err c = seen _ _ (invariant_of-self-in-Err c) ∙ view_of _ _ c.self.invariant c.self.view_is
