use Rattle.std.proofs.Common.{◌≡◌, ℕ, List, filter, bytes_eq, take}
use Rattle.std.specs.HashMap.{get_by}
use Rattle.std.specs.Option.{option_map}
use Rattle.atspi_cache.specs.loading.Shared.{grouped, shared}
use Rattle.atspi_cache.proofs.loading.groups.by_parent.Given as goal

abbrev pub invariant-loop-item : goal.invariant-loop-item
invariant-loop-item l = (path : List ℕ) → grouped (option_map (λ group. group.items) (get_by (λ k. bytes_eq path k.now) l.groups)) ≡ filter (λ item. bytes_eq path item.parent.path) (shared (take l.item-index l.lower))
