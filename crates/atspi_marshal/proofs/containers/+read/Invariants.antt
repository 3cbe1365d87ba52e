use Rattle.std.proofs.Common.{◌≡◌, ◌≤◌, ◌+◌, ◌-◌, ◌*◌, drop, map}
use Rattle.atspi_types.specs.KindView.{kind_of}
use Rattle.atspi_types.specs.DataView.{data_of, all_data, all_pairs}
use Rattle.atspi_marshal.specs.Faults.{entry_kind}
use Rattle.atspi_marshal.specs.Reading.{input_of, read, elements_at, fields_at, structs_in}
use Rattle.atspi_marshal.proofs.Loops.{behind, behind_fields}
use Rattle.atspi_marshal.proofs.containers.+read.Given as goal

abbrev pub decreases-value : goal.decreases-value
decreases-value a = 16 * a.levels + 9

abbrev pub decreases-structure : goal.decreases-structure
decreases-structure a = 16 * a.levels + 8

abbrev pub decreases-entry : goal.decreases-entry
decreases-entry a = 16 * a.levels + 9

abbrev pub decreases-pair : goal.decreases-pair
decreases-pair a = 16 * a.levels + 8

abbrev pub decreases-too_deep : goal.decreases-too_deep
decreases-too_deep a = 5

abbrev pub decreases-single : goal.decreases-single
decreases-single a = 16 * a.levels + 4

abbrev pub decreases-array : goal.decreases-array
decreases-array a = 16 * a.levels + 3

abbrev pub decreases-dictionary : goal.decreases-dictionary
decreases-dictionary a = 16 * a.levels + 3

abbrev pub decreases-variant : goal.decreases-variant
decreases-variant a = 16 * a.levels + 3

abbrev pub decreases-variant_body : goal.decreases-variant_body
decreases-variant_body a = 16 * a.levels + 2

abbrev pub decreases-inner : goal.decreases-inner
decreases-inner a = 16 * a.levels + 1

abbrev pub decreases-inner_item : goal.decreases-inner_item
decreases-inner_item a = 16 * a.levels

abbrev pub decreases-array_body : goal.decreases-array_body
decreases-array_body a = 16 * a.levels + 18

abbrev pub decreases-dictionary_body : goal.decreases-dictionary_body
decreases-dictionary_body a = 16 * a.levels + 18

abbrev pub decreases-items_of : goal.decreases-items_of
decreases-items_of a = 16 * a.levels + 17

abbrev pub decreases-elements : goal.decreases-elements
decreases-elements a = 16 * a.levels + 16

abbrev pub decreases-entries : goal.decreases-entries
decreases-entries a = 16 * a.levels + 17

abbrev pub decreases-fields_of : goal.decreases-fields_of
decreases-fields_of a = 16 * a.levels + 17

-- what was read, and what is still to be read, is all
abbrev pub invariant-elements-loop : goal.invariant-elements-loop
invariant-elements-loop l =
    let one = read (input_of l.input) l.levels (kind_of l.element) l.inside in
    (l.at ≤ l.inside.end) × (behind (all_data l.items) (elements_at one l.inside.end (l.len - l.counter) l.at) ≡ elements_at one l.inside.end l.len l.start)

abbrev pub invariant-entries-loop : goal.invariant-entries-loop
invariant-entries-loop l =
    let one = read (input_of l.input) l.levels (entry_kind (kind_of l.key) (kind_of l.value)) l.inside in
    (l.at ≤ l.inside.end) × (behind (structs_in (all_pairs l.pairs)) (elements_at one l.inside.end (l.len - l.counter) l.at) ≡ elements_at one l.inside.end l.len l.start)

abbrev pub invariant-fields_of-loop-field : goal.invariant-fields_of-loop-field
invariant-fields_of-loop-field l =
    (l.start ≤ l.at) × (l.at ≤ l.bound.end) × (behind_fields (map data_of l.items.items) (fields_at (λ k q. read (input_of l.input) l.levels k l.bound q) (map kind_of (drop l.field-index l.fields)) l.at)
    ≡ fields_at (λ k q. read (input_of l.input) l.levels k l.bound q) (map kind_of l.fields) l.start)
