use Rattle.std.proofs.Common.{ap, sym, subst, ◌∙◌}
use Rattle.std.proofs.lemmas.Result.{err_from_is_err_and}
use Rattle.atspi_tree_model.specs.declared.step.Step.TheVariants.{Move}
use Rattle.atspi_tree_model.specs.RowRules.{shapes}
use Rattle.atspi_tree_model.specs.Tree.{IsTree, after}
use Rattle.atspi_tree_model.proofs.RowRules.{shapes_sound}
use Rattle.atspi_tree_model.proofs.Kept.{moved_is_tree}
use Rattle.atspi_tree.proofs.Trees.{covering, holding, seen, shape, same_table, view_of}
use Rattle.atspi_tree.proofs.Rehung.{row_of_parent, not_root, movable, table_move}
use Rattle.atspi_tree.proofs.Noted.{covers_move}
use Rattle.atspi_tree.proofs.tree.Tree.shift.Goals as goal

pub parent-requires : goal.parent-requires
parent-requires c = c.requires.there

pub unreachable-requires : goal.unreachable-requires
unreachable-requires c =
    let h = holding _ _ c.args.self.now c.self.invariant c.self.view_is in
    not_root _ _ c.args.node c.args.self.now h c.requires.there c.in-None.ensures c.requires.not_root

pub rehang-requires : goal.rehang-requires
rehang-requires c =
    let h = holding _ _ c.args.self.now c.self.invariant c.self.view_is in
    let r = row_of_parent _ _ c.args.node c.args.self.now _ h c.requires.there c.in-Some.ensures in
    let m = movable _ _ c.args.node c.args.parent c.args.index c.in-Some.old c.args.self.now h c.requires r.kept r.there r.parent in
    record { from = m.from_there; in_range = m.in_range; only_there = m.only_there; apart = m.apart; not_own = m.not_own; there = m.there }

pub invariant_of-self : goal.invariant_of-self
invariant_of-self c = record {
  rows = c.self.invariant.rows;
  held = same_table _ _ c.self.invariant.rows c.self.invariant.held c.in_err-rehang-in-Some.ensures.err c.in_err-rehang-in-Some.ensures.size;
  lawful = c.self.invariant.lawful;
  covered = c.self.invariant.covered;
}

pub returns-in_err-rehang-in-Some-clause-err : goal.returns-in_err-rehang-in-Some-clause-err
unfolding invariant_of-self
returns-in_err-rehang-in-Some-clause-err c =
    let p = err_from_is_err_and c.from_residual.result c.from_residual.ensures.1 in
    rw p.1 (seen _ _ (invariant_of-self c) ∙ view_of _ _ c.self.invariant c.self.view_is)

pub invariant_of-self-in-Some : goal.invariant_of-self-in-Some
invariant_of-self-in-Some c =
    let h = holding _ _ c.args.self.now c.self.invariant c.self.view_is in
    let r = row_of_parent _ _ c.args.node c.args.self.now _ h c.requires.there c.in-Some.ensures in
    record {
      rows = after shapes c.args.self.now.rows (Move c.args.node c.args.parent c.args.index);
      held = table_move _ _ c.args.node c.args.parent c.args.index c.in-Some.old c.args.self.now h c.requires r.kept r.there r.parent _ c.in_ok-rehang-in-Some.ensures.put c.in_ok-rehang-in-Some.ensures.size;
      lawful = subst (IsTree shapes (after shapes c.args.self.now.rows (Move c.args.node c.args.parent c.args.index))) (sym h.added)
          (moved_is_tree shapes shapes_sound c.args.self.now.rows c.args.self.now.added c.args.node c.args.parent c.args.index h.lawful c.requires);
      covered = covers_move c.self.inside.namers.sets c.args.node c.args.parent c.args.index c.args.self.now.rows (covering _ _ c.args.self.now c.self.invariant c.self.view_is);
    }

pub returns-clause-ok : goal.returns-clause-ok
unfolding invariant_of-self-in-Some
returns-clause-ok c =
    let h = holding _ _ c.args.self.now c.self.invariant c.self.view_is in
    seen _ _ (invariant_of-self-in-Some c) ∙ ap (shape (after shapes c.args.self.now.rows (Move c.args.node c.args.parent c.args.index))) h.added
