use Rattle.std.proofs.Common.{None, Some, sym, arith}
use Rattle.std.proofs.lemmas.Map.Keys.{le_from_not_gt}
use Rattle.atspi_tree.proofs.Ranges.{none_by, not_above}
use Rattle.atspi_tree.proofs.Trees.{holding, there_is}
use Rattle.atspi_tree.proofs.tree.Tree.next_node.Goals as goal

pub returns-in-Some-clause-next : goal.returns-in-Some-clause-next
returns-in-Some-clause-next c =
    let h = holding _ _ c.args.self.now c.self.invariant c.self.view_is in
    let a = c.range.ensures.in_range tt in
    let steps = c.in-Some.ensures.steps in
    let first = rw steps at a.1 in (
      le_from_not_gt c.args.from c.in-Some.node.now first.0.0,
      there_is _ _ c.in-Some.node.now c.args.self.now h (Some _) (sym first.1),
      λ m low high. there_is _ _ m c.args.self.now h None (sym (none_by _ (λ s.
          let le = le_from_not_gt c.in-Some.node.now m (rw steps at (a.2 m (not_above c.args.from m low, tt) s)) in
          omega arith))),
    )

pub returns-in-None-clause-next : goal.returns-in-None-clause-next
returns-in-None-clause-next c = λ m low.
    let a = c.range.ensures.in_range tt in
    there_is _ _ m c.args.self.now (holding _ _ c.args.self.now c.self.invariant c.self.view_is) None (sym (a.5 c.in-None.ensures.steps.0 m (not_above c.args.from m low, tt)))

pub returns-in-Some-clause-lawful : goal.returns-in-Some-clause-lawful
returns-in-Some-clause-lawful c = (holding _ _ c.args.self.now c.self.invariant c.self.view_is).lawful

pub returns-in-None-clause-lawful : goal.returns-in-None-clause-lawful
returns-in-None-clause-lawful c = (holding _ _ c.args.self.now c.self.invariant c.self.view_is).lawful
