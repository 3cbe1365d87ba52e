use Rattle.std.proofs.Common.{sym, ap, ◌∙◌}
use Rattle.atspi_tree_model.specs.News.{own_items}
use Rattle.atspi_cache.specs.loading.inner.Own.{with_own}
use Rattle.atspi_cache.proofs.OfLoading.OwnLemmas.{own-snoc}
use Rattle.atspi_cache.proofs.OfLoading.SharedLemmas.{take-snoc}
use Rattle.atspi_cache.proofs.loading.own.own_items.Goals as goal

pub loop-item-preserved : goal.loop-item-preserved
loop-item-preserved c = record {
  own =
      c.in_ok-take_in.ensures.own
      ∙ ap (λ l. with_own c.args.bus.now l c.item-item.result) c.loop-item.invariant.own
      ∙ sym (ap (own_items c.args.bus.now) (take-snoc c.args.items.now c.loop-item.item-index c.item-item.result c.loop-item-test.true c.item-item.is) ∙ own-snoc c.args.bus.now _ c.item-item.result);
  seen = c.in_ok-take_in.ensures.seen;
}
