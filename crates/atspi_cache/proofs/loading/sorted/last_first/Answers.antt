use Rattle.std.proofs.Common.{sym, ap, ◌∙◌, rules, reverse}
use Rattle.std.proofs.lemmas.Fn.{always_returns_same}
use Rattle.atspi_cache.proofs.OfLoading.OrderLemmas.{index_of, sorted_is_by_index}
use Rattle.atspi_cache.proofs.OfLoading.SharedLemmas.{shared-reverse}
use Rattle.atspi_cache.specs.loading.Shared.{shared}
use Rattle.atspi_cache.proofs.loading.sorted.last_first.Goals as goal

pub returns : goal.returns
returns c =
    let key = always_returns_same _ _ _ (λ a r f k. search rules) in
    ap shared c.reverse.ensures.items ∙ shared-reverse c.sort_by_key.new.self.items
    ∙ ap reverse (sorted_is_by_index c.args.items.now.items c.sort_by_key.new.self.items (c.in_ok-sort_by_key.ensures.sorted index_of key) (c.in_ok-sort_by_key.ensures.stable index_of key))
