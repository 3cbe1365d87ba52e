use Rattle.std.proofs.Common.{◌≡◌, ◌+◌, ◌-◌, ◌≤◌, length, take}
use Rattle.atspi_types.specs.Data.{items_of}
use Rattle.atspi_marshal.specs.Reading.{entries_in}
use Rattle.atspi_marshal_in_place.specs.Items.{item_data, elements_data, entries_data, fields_data}
use Rattle.atspi_script.specs.inner.Views.{parts_data}
use Rattle.atspi_script.proofs.Sizes.{size, sizes, entry_sizes}
use Rattle.atspi_script.proofs.TextLemmas.{Written, words_of, entry_words}
use Rattle.atspi_script.proofs.values.+put.Given as goal

abbrev pub decreases-put : goal.decreases-put
decreases-put l = size (item_data l.item)

abbrev pub decreases-put_parts : goal.decreases-put_parts
decreases-put_parts l = size (parts_data l.parts) - 1

abbrev pub decreases-put_element : goal.decreases-put_element
decreases-put_element l = size (item_data l.item) + 1

abbrev pub decreases-put_array : goal.decreases-put_array
decreases-put_array l = sizes (items_of (elements_data l.elements)) + 1

abbrev pub decreases-put_elements : goal.decreases-put_elements
decreases-put_elements l = sizes (items_of (elements_data l.elements))

abbrev pub decreases-put_struct : goal.decreases-put_struct
decreases-put_struct l = sizes (items_of (fields_data l.fields)) + 1

abbrev pub decreases-put_fields : goal.decreases-put_fields
decreases-put_fields l = sizes (items_of (fields_data l.fields))

abbrev pub decreases-put_dictionary : goal.decreases-put_dictionary
decreases-put_dictionary l = entry_sizes (entries_in (items_of (entries_data l.entries))) + 1

abbrev pub decreases-put_entries : goal.decreases-put_entries
decreases-put_entries l = entry_sizes (entries_in (items_of (entries_data l.entries)))

abbrev pub decreases-put_entry : goal.decreases-put_entry
decreases-put_entry l = size (item_data l.entry.key) + size (item_data l.entry.value) + 1

abbrev pub decreases-put_variant : goal.decreases-put_variant
decreases-put_variant l = size (item_data l.inner) + 1

-- what was written and what is left are all, and what is left is no larger than all

abbrev pub invariant-put_elements-loop-item : goal.invariant-put_elements-loop-item
invariant-put_elements-loop-item l =
    (take (length l.fn.out) l.out ≡ l.fn.out) × Written l.out (words_of (elements_data l.rest)) l.fn.out (words_of (elements_data l.elements)) × (sizes (items_of (elements_data l.rest)) ≤ sizes (items_of (elements_data l.elements)))

abbrev pub decreases-put_elements-loop-item : goal.decreases-put_elements-loop-item
decreases-put_elements-loop-item l = sizes (items_of (elements_data l.rest))

abbrev pub invariant-put_fields-loop-item : goal.invariant-put_fields-loop-item
invariant-put_fields-loop-item l =
    (take (length l.fn.out) l.out ≡ l.fn.out) × Written l.out (words_of (fields_data l.rest)) l.fn.out (words_of (fields_data l.fields)) × (sizes (items_of (fields_data l.rest)) ≤ sizes (items_of (fields_data l.fields)))

abbrev pub decreases-put_fields-loop-item : goal.decreases-put_fields-loop-item
decreases-put_fields-loop-item l = sizes (items_of (fields_data l.rest))

abbrev pub invariant-put_entries-loop-entry : goal.invariant-put_entries-loop-entry
invariant-put_entries-loop-entry l =
    (take (length l.fn.out) l.out ≡ l.fn.out) × Written l.out (entry_words (entries_data l.rest)) l.fn.out (entry_words (entries_data l.entries)) × (entry_sizes (entries_in (items_of (entries_data l.rest))) ≤ entry_sizes (entries_in (items_of (entries_data l.entries))))

abbrev pub decreases-put_entries-loop-entry : goal.decreases-put_entries-loop-entry
decreases-put_entries-loop-entry l = entry_sizes (entries_in (items_of (entries_data l.rest)))
