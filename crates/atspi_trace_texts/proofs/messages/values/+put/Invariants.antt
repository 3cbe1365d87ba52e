use Rattle.std.proofs.Common.{◌≡◌, ◌+◌, ◌++◌, map, take}
use Rattle.atspi_types.specs.Data.{items_of, entries_of}
use Rattle.atspi_types.specs.DataView.{data_of, all_data, all_pairs}
use Rattle.atspi_types.specs.Borrowed.{ref_data}
use Rattle.atspi_script.specs.Spaced.{spaced}
use Rattle.atspi_script.specs.ValueText.{value_text}
use Rattle.atspi_trace_texts.proofs.OfMessages.Sizes.{size, sizes, entry_sizes}
use Rattle.atspi_trace_texts.proofs.OfMessages.TextLemmas.{pair_text}
use Rattle.atspi_trace_texts.proofs.messages.values.+put.Given as goal

abbrev pub decreases-put : goal.decreases-put
decreases-put l = size (ref_data l.value)

abbrev pub decreases-put_bracketed : goal.decreases-put_bracketed
decreases-put_bracketed l = sizes (items_of (all_data l.values.now)) + 1

abbrev pub decreases-put_values : goal.decreases-put_values
decreases-put_values l = sizes (items_of (all_data l.values.now))

abbrev pub decreases-put_dictionary : goal.decreases-put_dictionary
decreases-put_dictionary l = entry_sizes (entries_of (all_pairs l.pairs.now)) + 1

abbrev pub decreases-put_pairs : goal.decreases-put_pairs
decreases-put_pairs l = entry_sizes (entries_of (all_pairs l.pairs.now))

abbrev pub decreases-put_entry : goal.decreases-put_entry
decreases-put_entry l = size (data_of l.key.now) + size (data_of l.value.now) + 1

abbrev pub decreases-put_variant : goal.decreases-put_variant
decreases-put_variant l = size (data_of l.value.now) + 1

abbrev pub invariant-put_values-loop-i : goal.invariant-put_values-loop-i
invariant-put_values-loop-i l = l.out ≡ l.fn.out ++ spaced (take l.i (map value_text (all_data l.values)))

abbrev pub invariant-put_pairs-loop-i : goal.invariant-put_pairs-loop-i
invariant-put_pairs-loop-i l = l.out ≡ l.fn.out ++ spaced (take l.i (map pair_text (all_pairs l.pairs)))
