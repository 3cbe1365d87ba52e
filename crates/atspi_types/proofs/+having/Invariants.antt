use Rattle.std.proofs.Common.{◌≡◌, map, take}
use Rattle.atspi_types.specs.Borrowed.{ref_data}
use Rattle.atspi_types.specs.Data.{items_of, type_of}
use Rattle.atspi_types.specs.DataView.{all_data}
use Rattle.atspi_types.specs.KindView.{kind_of}
use Rattle.atspi_types.proofs.TypeLemmas.{size, sizes}
use Rattle.atspi_types.proofs.+having.Given as goal

abbrev pub decreases-borrowed::ValueRef::has_type : goal.decreases-borrowed::ValueRef::has_type
decreases-borrowed::ValueRef::has_type a = size (ref_data a.self)

abbrev pub decreases-value::Values::have_types : goal.decreases-value::Values::have_types
decreases-value::Values::have_types a = sizes (items_of (all_data a.self.now))

abbrev pub invariant-value::Values::have_types-loop-i : goal.invariant-value::Values::have_types-loop-i
invariant-value::Values::have_types-loop-i l = map type_of (take l.i (all_data l.self)) ≡ map kind_of (take l.i l.types)
