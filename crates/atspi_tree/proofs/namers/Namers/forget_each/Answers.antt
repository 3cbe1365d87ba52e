use Rattle.std.proofs.Common.{◌∙◌}
use Rattle.atspi_tree.proofs.namers.Namers.forget_each.Goals as goal

pub loop-relation-preserved : goal.loop-relation-preserved
loop-relation-preserved c t n e = c.forget.ensures.others t n e ∙ c.loop-relation.invariant t n e
