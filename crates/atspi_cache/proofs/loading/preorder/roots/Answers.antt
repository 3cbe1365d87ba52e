use Rattle.std.proofs.Common.{rules}
use Rattle.std.specs.Str.{bytes_eq}
use Rattle.atspi_cache.proofs.OfLoading.SharedLemmas.{keeps}
use Rattle.atspi_cache.proofs.loading.preorder.roots.Goals as goal

pub loop-item-preserved : goal.loop-item-preserved
loop-item-preserved c =
    keeps (λ item. bytes_eq item.object.path c.args.root.now) c.args.own.now c.loop-item.item-index c.item-item.result c.loop-item.roots.items _
    c.loop-item-test.true c.item-item.is c.loop-item.invariant (search rules)
