-- The views that a map of held applications has.
use Rattle.std.specs.Prelude.{ℕ, map}
use Rattle.std.specs.BTreeMap.{BTreeMap}
use Rattle.std.specs.FinMap.{from_entries}
use Rattle.atspi_cache.specs.declared.cache.Held.{Held}
use Rattle.atspi_cache.specs.Cache.{View, Views}

abbrev pub view_of : Held → View
view_of held = record { bus = held.bus; root = held.root; rows = held.rows }

abbrev pub as_views : BTreeMap ℕ Held → Views
as_views apps = from_entries (map (λ (e : ℕ × Held). (e.0, view_of e.1)) apps.entries)
