use Rattle.std.proofs.Common.{◌+◌, refl, sym, ◌∙◌, subst, arith}
use Rattle.atspi_app_exported.specs.Parts.{AreSmall}
use Rattle.atspi_app_exported.proofs.Copied.{IsClear, clear_next, clear_end, small_less}
use Rattle.atspi_app_exported.proofs.copies.clear.Goals as goal

pub loop-node-init : goal.loop-node-init
loop-node-init g c = record { clear = λ k h. absurd (omega arith); small = c.requires; kind = refl; same_one = refl }

pub returns-in_default-clause-empty : goal.returns-in_default-clause-empty
returns-in_default-clause-empty g c = clear_end c.loop-node.at _ c.in_default.ensures c.loop-node.invariant.clear

pub returns-then-node-clause-empty : goal.returns-then-node-clause-empty
returns-then-node-clause-empty g c =
    let now = g.F.Face.nodes c.loop-node.face in
    clear_end (c.in-Some.node + 1) _
    (λ k h. subst AreSmall (sym c.drop_node.ensures.gone) (small_less now c.in-Some.node c.loop-node.invariant.small) k (omega arith))
    (subst (IsClear (c.in-Some.node + 1)) (sym c.drop_node.ensures.gone) (clear_next c.loop-node.at c.in-Some.node now c.in-Some.ensures c.loop-node.invariant.clear))

pub loop-node-preserved : goal.loop-node-preserved
loop-node-preserved g c =
    let now = g.F.Face.nodes c.loop-node.face in
    record {
      clear = subst (IsClear (c.in-Some.node + 1)) (sym c.drop_node.ensures.gone) (clear_next c.loop-node.at c.in-Some.node now c.in-Some.ensures c.loop-node.invariant.clear);
      small = subst AreSmall (sym c.drop_node.ensures.gone) (small_less now c.in-Some.node c.loop-node.invariant.small);
      kind = c.drop_node.ensures.same_kind ∙ c.loop-node.invariant.kind;
      same_one = c.drop_node.ensures.same_one ∙ c.loop-node.invariant.same_one;
    }
