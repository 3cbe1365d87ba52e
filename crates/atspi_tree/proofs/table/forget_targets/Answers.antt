use Rattle.std.proofs.Common.{refl, sym, ap, ◌∙◌, subst}
use Rattle.std.specs.Ordering.{nat_cmp}
use Rattle.std.specs.BTreeMap.{is_at}
use Rattle.std.specs.List.{list_any}
use Rattle.atspi_tree.proofs.Leaf.{IsForgetting, forgetting_next, forgetting_all}
use Rattle.atspi_tree.proofs.table.forget_targets.Goals as goal

pub loop-node-init : goal.loop-node-init
loop-node-init c = record {
  same = λ m. refl;
  clean = λ m out. c.requires m (ap (list_any (is_at (nat_cmp m))) (sym c.into_iter-node-iterator.ensures.into_iter_gives.0) ∙ out);
  size = refl;
}

pub loop-node-preserved : goal.loop-node-preserved
loop-node-preserved c =
    forgetting_next c.args.target c.args.cells.now.entries c.loop-node.cells.entries c.forget_target.new.cells.entries c.in-Some.node.now c.next.new.self
    (subst (IsForgetting c.args.target c.args.cells.now.entries c.loop-node.cells.entries) c.in-Some.ensures.steps c.loop-node.invariant)
    c.forget_target.ensures.here c.forget_target.ensures.others c.forget_target.ensures.size

pub returns-clause-put : goal.returns-clause-put
returns-clause-put c =
    forgetting_all c.args.target c.args.cells.now.entries c.loop-node.cells.entries
    (subst (IsForgetting c.args.target c.args.cells.now.entries c.loop-node.cells.entries) c.in-None.ensures.steps.0 c.loop-node.invariant)

pub returns-clause-size : goal.returns-clause-size
returns-clause-size c = c.loop-node.invariant.size
