use Rattle.std.proofs.Common.{◌≡◌, ◌+◌, ◌*◌, length, take}
use Rattle.atspi_types.specs.DataView.{all_data, all_pairs}
use Rattle.atspi_marshal.specs.Reading.{structs_in}
use Rattle.atspi_marshal.proofs.WritingLists.{ValuesRemain}
use Rattle.atspi_marshal.proofs.writing.+put.Given as goal

abbrev pub decreases-put : goal.decreases-put
decreases-put a = 8 * a.levels + 3

abbrev pub decreases-put_array : goal.decreases-put_array
decreases-put_array a = 8 * a.levels + 2

abbrev pub decreases-put_dictionary : goal.decreases-put_dictionary
decreases-put_dictionary a = 8 * a.levels + 2

abbrev pub decreases-put_struct : goal.decreases-put_struct
decreases-put_struct a = 8 * a.levels + 2

abbrev pub decreases-put_variant : goal.decreases-put_variant
decreases-put_variant a = 8 * a.levels + 2

abbrev pub decreases-put_elements : goal.decreases-put_elements
decreases-put_elements a = 8 * a.levels + 5

abbrev pub decreases-put_values : goal.decreases-put_values
decreases-put_values a = 8 * a.levels + 4

abbrev pub decreases-put_pairs : goal.decreases-put_pairs
decreases-put_pairs a = 8 * a.levels + 5

abbrev pub decreases-put_entry : goal.decreases-put_entry
decreases-put_entry a = 8 * a.levels + 4

-- what was written, and what is still to be written, is all
abbrev pub invariant-put_values-loop-i : goal.invariant-put_values-loop-i
invariant-put_values-loop-i l = (ValuesRemain l.order l.levels l.at l.next (all_data l.values) l.i l.fn.out l.out) × (take (length l.fn.out) l.out ≡ l.fn.out)

abbrev pub invariant-put_pairs-loop-pair : goal.invariant-put_pairs-loop-pair
invariant-put_pairs-loop-pair l = (ValuesRemain l.order l.levels l.at l.next (structs_in (all_pairs l.pairs)) l.pair-index l.fn.out l.out) × (take (length l.fn.out) l.out ≡ l.fn.out)
