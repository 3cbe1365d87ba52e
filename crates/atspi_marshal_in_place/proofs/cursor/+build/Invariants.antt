use Rattle.std.proofs.Common.{◌≡◌, ◌+◌, ◌*◌, ◌++◌, length, max}
use Rattle.atspi_types.specs.DataView.{all_data, all_pairs}
use Rattle.atspi_marshal.specs.Reading.{structs_in}
use Rattle.atspi_marshal_in_place.specs.Items.{elements_data, entries_data, fields_data, fields_kinds}
use Rattle.atspi_marshal_in_place.proofs.cursor.+build.Given as goal

abbrev pub decreases-Item::value : goal.decreases-Item::value
decreases-Item::value a = 8 * a.self.levels + 1

abbrev pub decreases-Item::in_variant : goal.decreases-Item::in_variant
decreases-Item::in_variant a = 8 * a.self.levels + 2

abbrev pub decreases-Entry::pair : goal.decreases-Entry::pair
decreases-Entry::pair a = 8 * max a.self.key.levels a.self.value.levels + 2

abbrev pub decreases-Elements::put_all : goal.decreases-Elements::put_all
decreases-Elements::put_all a = 8 * a.self.now.levels + 3

abbrev pub decreases-Elements::values : goal.decreases-Elements::values
decreases-Elements::values a = 8 * a.self.levels + 4

abbrev pub decreases-Elements::array : goal.decreases-Elements::array
decreases-Elements::array a = 8 * a.self.levels + 5

abbrev pub decreases-Entries::put_all : goal.decreases-Entries::put_all
decreases-Entries::put_all a = 8 * a.self.now.levels + 3

abbrev pub decreases-Entries::pairs : goal.decreases-Entries::pairs
decreases-Entries::pairs a = 8 * a.self.levels + 4

abbrev pub decreases-Entries::dictionary : goal.decreases-Entries::dictionary
decreases-Entries::dictionary a = 8 * a.self.levels + 5

abbrev pub decreases-Fields::put_all : goal.decreases-Fields::put_all
decreases-Fields::put_all a = 8 * a.self.now.levels + 3

abbrev pub decreases-Fields::values : goal.decreases-Fields::values
decreases-Fields::values a = 8 * a.self.levels + 4

abbrev pub decreases-Fields::structure : goal.decreases-Fields::structure
decreases-Fields::structure a = 8 * a.self.levels + 5

-- what was appended, and what is still to come, is all
abbrev pub invariant-Elements::put_all-loop-item : goal.invariant-Elements::put_all-loop-item
invariant-Elements::put_all-loop-item l = (l.self.levels ≡ l.fn.self.levels) × (all_data l.values ++ elements_data l.self ≡ all_data l.fn.values ++ elements_data l.fn.self)

abbrev pub decreases-Elements::put_all-loop-item : goal.decreases-Elements::put_all-loop-item
decreases-Elements::put_all-loop-item l = l.self.left

abbrev pub invariant-Entries::put_all-loop-entry : goal.invariant-Entries::put_all-loop-entry
invariant-Entries::put_all-loop-entry l = (l.self.levels ≡ l.fn.self.levels) × (structs_in (all_pairs l.pairs) ++ entries_data l.self ≡ structs_in (all_pairs l.fn.pairs) ++ entries_data l.fn.self)

abbrev pub decreases-Entries::put_all-loop-entry : goal.decreases-Entries::put_all-loop-entry
decreases-Entries::put_all-loop-entry l = l.self.left

abbrev pub invariant-Fields::put_all-loop-item : goal.invariant-Fields::put_all-loop-item
invariant-Fields::put_all-loop-item l = (l.self.levels ≡ l.fn.self.levels) × (all_data l.values ++ fields_data l.self ≡ all_data l.fn.values ++ fields_data l.fn.self)

abbrev pub decreases-Fields::put_all-loop-item : goal.decreases-Fields::put_all-loop-item
decreases-Fields::put_all-loop-item l = length (fields_kinds l.self)
