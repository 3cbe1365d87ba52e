use Rattle.std.proofs.Common.{◌≡◌, ℕ, List, take}
use Rattle.std.specs.Prelude.{bytes_eq}
use Rattle.std.specs.HashSet.{contains_by}
use Rattle.atspi_tree_model.specs.News.{own_items}
use Rattle.atspi_cache.specs.loading.Shared.{shared}
use Rattle.atspi_cache.specs.loading.inner.Own.{has_object}
use Rattle.atspi_cache.proofs.loading.own.own_items.Given as goal

abbrev pub invariant-loop-item : goal.invariant-loop-item
invariant-loop-item l = record {
  own : shared l.own.items ≡ own_items l.bus (take l.item-index l.items);
  seen : (path : List ℕ) → contains_by (λ k. bytes_eq path k.now) l.seen ≡ has_object path (shared l.own.items);
}
