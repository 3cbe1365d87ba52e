use Rattle.std.proofs.Common.{map, take}
use Rattle.atspi_types.specs.Kinds.{kinds_of}
use Rattle.atspi_types.specs.Borrowed.{ref_data}
use Rattle.atspi_types.specs.Data.{items_of, type_of}
use Rattle.atspi_types.specs.DataView.{all_data}
use Rattle.atspi_types.specs.inner.Extents.{IsExtent}
use Rattle.atspi_types.proofs.TypeLemmas.{size, sizes}
use Rattle.atspi_types.proofs.+reach.Given as goal

abbrev pub decreases-borrowed::ValueRef::extent : goal.decreases-borrowed::ValueRef::extent
decreases-borrowed::ValueRef::extent a = size (ref_data a.self)

abbrev pub decreases-value::Values::extent : goal.decreases-value::Values::extent
decreases-value::Values::extent a = sizes (items_of (all_data a.self.now))

abbrev pub invariant-value::Values::extent-loop-i : goal.invariant-value::Values::extent-loop-i
invariant-value::Values::extent-loop-i l = IsExtent l.all (kinds_of (map type_of (take l.i (all_data l.self))))
