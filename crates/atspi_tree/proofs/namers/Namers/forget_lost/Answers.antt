use Rattle.std.proofs.Common.{◌∙◌}
use Rattle.atspi_tree.proofs.namers.Namers.forget_lost.Goals as goal

pub loop-relation-preserved : goal.loop-relation-preserved
loop-relation-preserved c = record {
  others = λ t n e. c.forget_unless.ensures.others t n e ∙ c.loop-relation.invariant.others t n e;
  still = λ t h. c.forget_unless.ensures.named t h ∙ c.loop-relation.invariant.still t h;
}
