use Rattle.std.proofs.Common.{arith}
use Rattle.std.proofs.lemmas.Grind.{text_groups}
use Rattle.atspi_cache.proofs.loading.groups.by_parent.Goals as goal

pub loop-item-preserved : goal.loop-item-preserved
loop-item-preserved c = grind (arith, text_groups)
