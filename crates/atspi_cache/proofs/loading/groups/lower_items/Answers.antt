use Rattle.std.proofs.Common.{rules}
use Rattle.atspi_cache.specs.loading.Shared.{is_lower}
use Rattle.atspi_cache.proofs.OfLoading.SharedLemmas.{keeps}
use Rattle.atspi_cache.proofs.loading.groups.lower_items.Goals as goal

pub loop-item-preserved : goal.loop-item-preserved
loop-item-preserved c =
    keeps (is_lower c.args.root.now c.args.bus.now) c.args.own.now c.loop-item.item-index c.item-item.result c.loop-item.lower.items _
    c.loop-item-test.true c.item-item.is c.loop-item.invariant (search rules)
