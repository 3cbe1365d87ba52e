use Rattle.std.proofs.Common.{◌≡◌, filter, take}
use Rattle.atspi_cache.specs.loading.Shared.{is_lower, shared}
use Rattle.atspi_cache.proofs.loading.groups.lower_items.Given as goal

abbrev pub invariant-loop-item : goal.invariant-loop-item
invariant-loop-item l = shared l.lower.items ≡ filter (is_lower l.root l.bus) (shared (take l.item-index l.own))
