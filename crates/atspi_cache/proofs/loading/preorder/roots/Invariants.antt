use Rattle.std.proofs.Common.{◌≡◌, take}
use Rattle.std.specs.Prelude.{bytes_eq, filter}
use Rattle.atspi_cache.specs.loading.Shared.{shared}
use Rattle.atspi_cache.proofs.loading.preorder.roots.Given as goal

abbrev pub invariant-loop-item : goal.invariant-loop-item
invariant-loop-item l = shared l.roots.items ≡ filter (λ item. bytes_eq item.object.path l.root) (shared (take l.item-index l.own))
