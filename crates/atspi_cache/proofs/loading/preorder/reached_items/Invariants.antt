use Rattle.std.proofs.Common.{ℕ, ◌-◌, length}
use Rattle.std.specs.Prelude.{reverse}
use Rattle.atspi_tree_model.specs.News.{children_in, own_items}
use Rattle.atspi_cache.specs.loading.Shared.{reached_items, shared}
use Rattle.atspi_cache.proofs.OfLoading.WalkLemmas.{Walked}
use Rattle.atspi_cache.proofs.loading.preorder.reached_items.Given as goal

abbrev pub invariant-loop-item : goal.invariant-loop-item
invariant-loop-item l =
    Walked (children_in l.root l.bus (own_items l.bus l.items)) (reached_items l.root l.bus l.items) (shared l.reached.items) (reverse (shared l.waiting.items))

abbrev pub decreases-loop-item : goal.decreases-loop-item
decreases-loop-item l = length (reached_items l.root l.bus l.items) - length (shared l.reached.items)
