use Rattle.std.proofs.Common.{◌≡◌, ◌≤◌, ◌+◌, ◌-◌, ◌*◌, length}
use Rattle.atspi_types.specs.Kinds.{structure, kinds_of}
use Rattle.atspi_marshal_in_place.specs.codes.TyRefs.{ref_kind, refs_kinds}
use Rattle.atspi_marshal.specs.Faults.{entry_kind}
use Rattle.atspi_marshal.specs.Reading.{input_of, read, elements_at}
use Rattle.atspi_marshal_in_place.specs.Passing.{after, up_to, read_all}
use Rattle.atspi_marshal_in_place.proofs.passing.+pass.Given as goal

abbrev pub decreases-pass : goal.decreases-pass
decreases-pass a = 16 * a.levels + 10

abbrev pub decreases-other : goal.decreases-other
decreases-other a = 16 * a.levels + 9

abbrev pub decreases-structure : goal.decreases-structure
decreases-structure a = 16 * a.levels + 8

abbrev pub decreases-entry : goal.decreases-entry
decreases-entry a = 16 * a.levels + 9

abbrev pub decreases-pair : goal.decreases-pair
decreases-pair a = 16 * a.levels + 8

abbrev pub decreases-too_deep : goal.decreases-too_deep
decreases-too_deep a = 5

abbrev pub decreases-single : goal.decreases-single
decreases-single a = 16 * a.levels + 4

abbrev pub decreases-array : goal.decreases-array
decreases-array a = 16 * a.levels + 3

abbrev pub decreases-dictionary : goal.decreases-dictionary
decreases-dictionary a = 16 * a.levels + 3

abbrev pub decreases-variant : goal.decreases-variant
decreases-variant a = 16 * a.levels + 3

abbrev pub decreases-variant_body : goal.decreases-variant_body
decreases-variant_body a = 16 * a.levels + 2

abbrev pub decreases-inner : goal.decreases-inner
decreases-inner a = 16 * a.levels + 1

abbrev pub decreases-array_body : goal.decreases-array_body
decreases-array_body a = 16 * a.levels + 18

abbrev pub decreases-dictionary_body : goal.decreases-dictionary_body
decreases-dictionary_body a = 16 * a.levels + 18

abbrev pub decreases-elements : goal.decreases-elements
decreases-elements a = 16 * a.levels + 16

abbrev pub decreases-structures : goal.decreases-structures
decreases-structures a = 16 * a.levels + 9

abbrev pub decreases-entries : goal.decreases-entries
decreases-entries a = 16 * a.levels + 17

abbrev pub decreases-fields : goal.decreases-fields
decreases-fields a = 16 * a.levels + 17

-- what is still to be passed is all
abbrev pub invariant-elements-loop : goal.invariant-elements-loop
invariant-elements-loop l =
    let one = read (input_of l.input) l.levels (ref_kind l.element) l.inside in
    (l.at ≤ l.inside.end) × (up_to l.inside.end (elements_at one l.inside.end (l.len - l.counter) l.at) ≡ up_to l.inside.end (elements_at one l.inside.end l.len l.start))

abbrev pub invariant-structures-loop : goal.invariant-structures-loop
invariant-structures-loop l =
    let one = read (input_of l.input) l.levels (structure (kinds_of (refs_kinds l.types))) l.inside in
    (l.at ≤ l.inside.end) × (up_to l.inside.end (elements_at one l.inside.end (l.len - l.counter) l.at) ≡ up_to l.inside.end (elements_at one l.inside.end l.len l.start))

abbrev pub invariant-entries-loop : goal.invariant-entries-loop
invariant-entries-loop l =
    let one = read (input_of l.input) l.levels (entry_kind (ref_kind l.key) (ref_kind l.value)) l.inside in
    (l.at ≤ l.inside.end) × (up_to l.inside.end (elements_at one l.inside.end (l.len - l.counter) l.at) ≡ up_to l.inside.end (elements_at one l.inside.end l.len l.start))

abbrev pub invariant-fields-rest : goal.invariant-fields-rest
invariant-fields-rest l =
    (l.start ≤ l.at) × (l.at ≤ l.bound.end)
    × (after (read_all (input_of l.input) l.levels (refs_kinds l.rest) l.bound l.at) ≡ after (read_all (input_of l.input) l.levels (refs_kinds l.types) l.bound l.start))

abbrev pub decreases-fields-rest : goal.decreases-fields-rest
decreases-fields-rest l = length (refs_kinds l.rest)
