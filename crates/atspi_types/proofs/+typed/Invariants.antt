use Rattle.std.proofs.Common.{◌+◌, ◌*◌, map, take}
use Rattle.atspi_types.specs.Borrowed.{ref_data}
use Rattle.atspi_types.specs.Data.{items_of, entries_of, AreWellTyped, AllHaveType, AllHaveTypes}
use Rattle.atspi_types.specs.DataView.{all_data, all_pairs, pair_of}
use Rattle.atspi_types.specs.KindView.{kind_of}
use Rattle.atspi_types.proofs.DataSize.{data_size, items_size, entries_size}
use Rattle.atspi_types.proofs.+typed.Given as goal

abbrev pub decreases-borrowed::ValueRef::is_well_typed : goal.decreases-borrowed::ValueRef::is_well_typed
decreases-borrowed::ValueRef::is_well_typed a = 2 * data_size (ref_data a.self)

abbrev pub decreases-borrowed::ValueRef::is_well_typed_as : goal.decreases-borrowed::ValueRef::is_well_typed_as
decreases-borrowed::ValueRef::is_well_typed_as a = 2 * data_size (ref_data a.self) + 1

abbrev pub decreases-value::Values::are_well_typed : goal.decreases-value::Values::are_well_typed
decreases-value::Values::are_well_typed a = 2 * items_size (items_of (all_data a.self.now))

abbrev pub decreases-value::Values::are_well_typed_as : goal.decreases-value::Values::are_well_typed_as
decreases-value::Values::are_well_typed_as a = 2 * items_size (items_of (all_data a.self.now))

abbrev pub decreases-value::Pairs::are_well_typed_as : goal.decreases-value::Pairs::are_well_typed_as
decreases-value::Pairs::are_well_typed_as a = 2 * entries_size (entries_of (all_pairs a.self.now))

abbrev pub invariant-value::Values::are_well_typed-loop-i : goal.invariant-value::Values::are_well_typed-loop-i
invariant-value::Values::are_well_typed-loop-i l = AreWellTyped (items_of (take l.i (all_data l.self)))

abbrev pub invariant-value::Values::are_well_typed_as-loop-i : goal.invariant-value::Values::are_well_typed_as-loop-i
invariant-value::Values::are_well_typed_as-loop-i l = AllHaveType (kind_of l.ty) (items_of (take l.i (all_data l.self)))

abbrev pub invariant-value::Pairs::are_well_typed_as-loop-pair : goal.invariant-value::Pairs::are_well_typed_as-loop-pair
invariant-value::Pairs::are_well_typed_as-loop-pair l = AllHaveTypes (kind_of l.key) (kind_of l.value) (entries_of (map pair_of (take l.pair-index l.pair-items)))
