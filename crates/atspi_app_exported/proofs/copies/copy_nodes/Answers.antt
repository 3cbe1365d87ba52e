use Rattle.std.proofs.Common.{◌+◌, refl, ◌∙◌, arith}
use Rattle.atspi_app_exported.proofs.Copied.{copied_start, copied_next, copied_end, small_same}
use Rattle.atspi_app_exported.proofs.copies.copy_nodes.Goals as goal

pub loop-node-init : goal.loop-node-init
loop-node-init g c = record { copied = copied_start _ _ c.requires.empty; kind = refl; same_one = refl }

pub copy_node-requires-clause-fresh : goal.copy_node-requires-clause-fresh
copy_node-requires-clause-fresh g c = c.loop-node.invariant.copied.others c.in-Some.node c.in-Some.ensures.0

pub returns-in_default-clause-ok : goal.returns-in_default-clause-ok
returns-in_default-clause-ok g c = copied_end c.loop-node.at _ _ c.in_default.ensures c.loop-node.invariant.copied

pub returns-in_default-clause-small : goal.returns-in_default-clause-small
returns-in_default-clause-small g c = small_same _ _ (copied_end c.loop-node.at _ _ c.in_default.ensures c.loop-node.invariant.copied) c.requires.small

pub returns-then-node-clause-ok : goal.returns-then-node-clause-ok
returns-then-node-clause-ok g c =
    copied_end (c.in-Some.node + 1) (g.F.Face.nodes c.args.from.now) _ (λ k h. c.requires.small k (omega arith))
    (copied_next c.loop-node.at c.in-Some.node (g.F.Face.nodes c.args.from.now) _ _ c.in-Some.ensures c.loop-node.invariant.copied c.in-Ok.ensures.ok)

pub returns-then-node-clause-small : goal.returns-then-node-clause-small
returns-then-node-clause-small g c =
    small_same (g.F.Face.nodes c.args.from.now) _
    (copied_end (c.in-Some.node + 1) (g.F.Face.nodes c.args.from.now) _ (λ k h. c.requires.small k (omega arith))
    (copied_next c.loop-node.at c.in-Some.node (g.F.Face.nodes c.args.from.now) _ _ c.in-Some.ensures c.loop-node.invariant.copied c.in-Ok.ensures.ok)) c.requires.small

pub loop-node-preserved : goal.loop-node-preserved
loop-node-preserved g c = record {
  copied = copied_next c.loop-node.at c.in-Some.node (g.F.Face.nodes c.args.from.now) _ _ c.in-Some.ensures c.loop-node.invariant.copied c.in-Ok.ensures.ok;
  kind = c.in-Ok.ensures.kind ∙ c.loop-node.invariant.kind;
  same_one = c.in-Ok.ensures.same_one ∙ c.loop-node.invariant.same_one;
}
