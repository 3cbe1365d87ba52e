use Rattle.std.proofs.Common.{◌≡◌, ◌∷◌, [], ◌++◌, List, rules, ap, sym, ◌∙◌, ◌<◌, arith, refl}
use Rattle.std.proofs.lemmas.Grind.{common_steps}
use Rattle.atspi_types.specs.KindView.{kind_of}
use Rattle.atspi_types.specs.DataView.{data_of, all_data, all_pairs}
use Rattle.atspi_types.specs.Data.{Data}
use Rattle.atspi_types.proofs.KindLemmas.{kind_of-Byte, kind_of-Bool, kind_of-I16, kind_of-U16, kind_of-I32, kind_of-U32, kind_of-I64, kind_of-U64, kind_of-Double, kind_of-Text, kind_of-Path, kind_of-Sig, kind_of-Variant, kind_of-Array, kind_of-Struct, kind_of-Dict}
use Rattle.atspi_marshal.specs.Faults.{entry_kind}
use Rattle.atspi_marshal.specs.Reading.{input_of, read, elements_at, single_at, level, struct_of, structs_in, deep_at, array_at, array_body_at, dictionary_at, inner_at, short_at, structure_at, variant_body_at}
use Rattle.std.specs.Prelude.{◌==◌}
use Rattle.std.proofs.Common.{◌-◌, ◌+◌, ◌%◌, ℕ, Ok, Result, length, map}
use Rattle.std.proofs.lemmas.Bool.{false≢true}
use Rattle.std.proofs.lemmas.List.{length-map}
use Rattle.atspi_types.specs.SignatureView.{signature_types}
use Rattle.atspi_types.specs.declared.fault.Fault.{Fault}
use Rattle.atspi_marshal.proofs.Answers.{empty_deep, not_one, dictionary_made, made_at}
use Rattle.atspi_marshal.proofs.ByteArrays.{bytes_given}
use Rattle.atspi_marshal.proofs.Levels.{read_is, types_in-kinds_of, level_single}
use Rattle.atspi_marshal.proofs.Loops.{goes_on, structs_in-append}
use Rattle.atspi_marshal.proofs.containers.+read.Goals as goal

pub single-returns-in-Byte-clause-read : goal.single-returns-in-Byte-clause-read
unfolding single_at
single-returns-in-Byte-clause-read t c = rw (c.in-Byte.is, kind_of-Byte) c.byte_value.ensures.read

pub single-returns-in-Bool-clause-read : goal.single-returns-in-Bool-clause-read
unfolding single_at
single-returns-in-Bool-clause-read t c = rw (c.in-Bool.is, kind_of-Bool) c.boolean_value.ensures.read

pub single-returns-in-I16-clause-read : goal.single-returns-in-I16-clause-read
unfolding single_at
single-returns-in-I16-clause-read t c = rw (c.in-I16.is, kind_of-I16) c.i16_value.ensures.read

pub single-returns-in-U16-clause-read : goal.single-returns-in-U16-clause-read
unfolding single_at
single-returns-in-U16-clause-read t c = rw (c.in-U16.is, kind_of-U16) c.u16_value.ensures.read

pub single-returns-in-I32-clause-read : goal.single-returns-in-I32-clause-read
unfolding single_at
single-returns-in-I32-clause-read t c = rw (c.in-I32.is, kind_of-I32) c.i32_value.ensures.read

pub single-returns-in-U32-clause-read : goal.single-returns-in-U32-clause-read
unfolding single_at
single-returns-in-U32-clause-read t c = rw (c.in-U32.is, kind_of-U32) c.u32_value.ensures.read

pub single-returns-in-I64-clause-read : goal.single-returns-in-I64-clause-read
unfolding single_at
single-returns-in-I64-clause-read t c = rw (c.in-I64.is, kind_of-I64) c.i64_value.ensures.read

pub single-returns-in-U64-clause-read : goal.single-returns-in-U64-clause-read
unfolding single_at
single-returns-in-U64-clause-read t c = rw (c.in-U64.is, kind_of-U64) c.u64_value.ensures.read

pub single-returns-in-Double-clause-read : goal.single-returns-in-Double-clause-read
unfolding single_at
single-returns-in-Double-clause-read t c = rw (c.in-Double.is, kind_of-Double) c.double_value.ensures.read

pub single-returns-in-Text-clause-read : goal.single-returns-in-Text-clause-read
unfolding single_at
single-returns-in-Text-clause-read t c = rw (c.in-Text.is, kind_of-Text) c.text_value.ensures.read

pub single-returns-in-Path-clause-read : goal.single-returns-in-Path-clause-read
unfolding single_at
single-returns-in-Path-clause-read t c = rw (c.in-Path.is, kind_of-Path) c.path_value.ensures.read

pub single-returns-in-Sig-clause-read : goal.single-returns-in-Sig-clause-read
unfolding single_at
single-returns-in-Sig-clause-read t c = rw (c.in-Sig.is, kind_of-Sig) c.signature_value.ensures.read

pub single-returns-in-Variant-clause-read : goal.single-returns-in-Variant-clause-read
unfolding single_at
single-returns-in-Variant-clause-read t c = rw (c.in-Variant.is, kind_of-Variant) c.variant.ensures.read

pub single-returns-in-Array-clause-read : goal.single-returns-in-Array-clause-read
unfolding single_at
single-returns-in-Array-clause-read t c = rw (c.in-Array.is, kind_of-Array, ← c.deref.ensures) c.array.ensures.read

pub single-returns-in-Dict-clause-read : goal.single-returns-in-Dict-clause-read
unfolding single_at
single-returns-in-Dict-clause-read t c = rw (c.in-Dict.is, kind_of-Dict) (rw (c.deref-in-Dict.ensures, c.deref-in-Dict-2.ensures) at c.dictionary.ensures.read)

pub single-returns-in-Struct-clause-read : goal.single-returns-in-Struct-clause-read
unfolding single_at
single-returns-in-Struct-clause-read t c = rw (c.in-Struct.is, kind_of-Struct, c.bad.ensures) refl

pub value-returns-in-Some-clause-read : goal.value-returns-in-Some-clause-read
unfolding level
value-returns-in-Some-clause-read t c = rw (c.in-Some.ensures.fields, read_is, types_in-kinds_of) c.structure.ensures.read

pub value-returns-in-None-clause-read : goal.value-returns-in-None-clause-read
value-returns-in-None-clause-read t c =
    let i = input_of c.args.input.now in
    rw (read_is, level_single (c.args.levels == 0) (read i (c.args.levels - 1)) i (kind_of c.args.ty.now) c.args.bound c.args.at (sym c.in-None.ensures.is)) c.single.ensures.read

pub entry-returns-clause-read : goal.entry-returns-clause-read
unfolding level
entry-returns-clause-read t c = rw read_is c.pair.ensures.read

pub elements-loop-preserved : goal.elements-loop-preserved
elements-loop-preserved t c =
    let front = all_data c.loop.items in
    let one = read (input_of c.args.input.now) c.args.levels (kind_of c.args.element.now) c.args.inside in
    let total = elements_at one c.args.inside.end c.args.len c.args.start in
    let room : c.loop.at < c.args.inside.end = omega (arith, c.loop.invariant.0, c.if-at-inside.false) in (
      c.in_ok-item.ensures.within.1,
      rw c.in_ok-push.ensures.ok (goes_on one c.args.inside.end c.args.len c.loop.counter c.loop.at front (data_of c.in_ok-item.item) c.in_ok-item.next total c.loop-test.true room c.in_ok-item.ensures.read c.loop.invariant.1),
    )

pub entries-loop-preserved : goal.entries-loop-preserved
entries-loop-preserved t c =
    let front = structs_in (all_pairs c.loop.pairs) in
    let one = read (input_of c.args.input.now) c.args.levels (entry_kind (kind_of c.args.key.now) (kind_of c.args.value.now)) c.args.inside in
    let total = elements_at one c.args.inside.end c.args.len c.args.start in
    let room : c.loop.at < c.args.inside.end = omega (arith, c.loop.invariant.0, c.if-at-inside.false) in (
      c.in_ok-first.ensures.within.1,
      rw (c.in_ok-push.ensures.ok, structs_in-append) (goes_on one c.args.inside.end c.args.len c.loop.counter c.loop.at front (struct_of (data_of c.in_ok-first.first) (data_of c.in_ok-first.second)) c.in_ok-first.next total c.loop-test.true room c.in_ok-first.ensures.read c.loop.invariant.1),
    )

pub structure-returns-in_default-clause-read : goal.structure-returns-in_default-clause-read
structure-returns-in_default-clause-read t c =
    let i = input_of c.args.input.now in
    let few : length (map kind_of c.args.fields.now) < 1 = simp length-map c.in_default.len_below in
    rw (c.if-levels-eq0.true, c.bad.ensures) (empty_deep (read i (0 - 1)) i (map kind_of c.args.fields.now) c.args.bound c.args.at c.in_ok-place.place few c.in_ok-place.ensures.place)

pub dictionary_body-returns-clause-read : goal.dictionary_body-returns-clause-read
dictionary_body-returns-clause-read t c =
    let i = input_of c.args.input.now in
    let key = kind_of c.args.key.now in
    let value = kind_of c.args.value.now in
    dictionary_made (read i c.args.levels) i key value c.args.place c.u32_at-len.result c.in_ok-start.start (all_pairs c.in_ok-pairs.pairs) c.u32_at-len.ensures c.in_ok-start.ensures.place c.in_ok-pairs.ensures.read
    ∙ ap (λ (d : Data). made_at d (c.args.place + 4 + (8 - (c.args.place + 4) % 8) % 8 + c.u32_at-len.result)) (sym c.in_ok-dictionary_of.ensures)

pub variant_body-returns-in-None-clause-read : goal.variant_body-returns-in-None-clause-read
variant_body-returns-in-None-clause-read t c =
    let i = input_of c.args.input.now in
    let types = signature_types c.in-Ok.signature in
    let many : length types ≡ 1 → ⊥ = λ one. false≢true (c.in-None.ensures.is.1 one) in
    rw c.bad.ensures (not_one (c.args.levels == 0) (read i (c.args.levels - 1)) i c.args.bound c.args.place types many c.in-Ok.ensures.read)

pub items_of-returns-then-is_byte : goal.items_of-returns-then-is_byte
items_of-returns-then-is_byte t c =
    record { read = bytes_given (input_of c.args.input.now) c.args.levels (kind_of c.args.element.now) c.args.inside c.args.len c.args.start c.bytes.result (sym c.is_byte.ensures ∙ c.if-is_byte.true) c.requires.at.0 c.requires.end.0 c.requires.at.1 c.bytes.ensures.ok c.bytes.ensures.err }

pub array-array_front-requires-clause-align : goal.array-array_front-requires-clause-align
unfolding array_at
array-array_front-requires-clause-align t c = grind (arith, common_steps)

pub array-array_front-requires-clause-at : goal.array-array_front-requires-clause-at
unfolding array_at
array-array_front-requires-clause-at t c = grind (arith, common_steps)

pub array-array_front-requires-clause-end : goal.array-array_front-requires-clause-end
unfolding array_at
array-array_front-requires-clause-end t c = grind (arith, common_steps)

pub array-returns-in_err-place-clause-read : goal.array-returns-in_err-place-clause-read
unfolding array_at
array-returns-in_err-place-clause-read t c = grind (arith, common_steps)

pub array-returns-in_err-place-clause-within : goal.array-returns-in_err-place-clause-within
unfolding array_at
array-returns-in_err-place-clause-within t c = grind (arith, common_steps)

pub array-bad-requires : goal.array-bad-requires
unfolding array_at
array-bad-requires t c = grind (arith, common_steps)

pub array-returns-then-levels-eq0-clause-read : goal.array-returns-then-levels-eq0-clause-read
unfolding array_at
array-returns-then-levels-eq0-clause-read t c = grind (arith, common_steps)

pub array-overflow_sub-levels : goal.array-overflow_sub-levels
unfolding array_at
array-overflow_sub-levels t c = grind (arith, common_steps)

pub array-array_body-requires : goal.array-array_body-requires
unfolding array_at
array-array_body-requires t c = grind (arith, common_steps)

pub array-returns-clause-read : goal.array-returns-clause-read
unfolding array_at
array-returns-clause-read t c = grind (arith, common_steps)

pub array-returns-clause-within : goal.array-returns-clause-within
unfolding array_at
array-returns-clause-within t c = grind (arith, common_steps)

pub array_body-u32_at-len-requires : goal.array_body-u32_at-len-requires
unfolding array_body_at
array_body-u32_at-len-requires t c = grind (arith, common_steps)

pub array_body-overflow_cast-len : goal.array_body-overflow_cast-len
unfolding array_body_at
array_body-overflow_cast-len t c = grind (arith, common_steps)

pub array_body-overflow_add-unpadded : goal.array_body-overflow_add-unpadded
unfolding array_body_at
array_body-overflow_add-unpadded t c = grind (arith, common_steps)

pub array_body-nonzero_rem-inside : goal.array_body-nonzero_rem-inside
unfolding array_body_at
array_body-nonzero_rem-inside t c = grind (arith, common_steps)

pub array_body-overflow_sub-inside : goal.array_body-overflow_sub-inside
unfolding array_body_at
array_body-overflow_sub-inside t c = grind (arith, common_steps)

pub array_body-nonzero_rem-inside-2 : goal.array_body-nonzero_rem-inside-2
unfolding array_body_at
array_body-nonzero_rem-inside-2 t c = grind (arith, common_steps)

pub array_body-overflow_add-inside : goal.array_body-overflow_add-inside
unfolding array_body_at
array_body-overflow_add-inside t c = grind (arith, common_steps)

pub array_body-overflow_add-inside-2 : goal.array_body-overflow_add-inside-2
unfolding array_body_at
array_body-overflow_add-inside-2 t c = grind (arith, common_steps)

pub array_body-padding-requires-clause-align : goal.array_body-padding-requires-clause-align
unfolding array_body_at
array_body-padding-requires-clause-align t c = grind (arith, common_steps)

pub array_body-padding-requires-clause-at : goal.array_body-padding-requires-clause-at
unfolding array_body_at
array_body-padding-requires-clause-at t c = grind (arith, common_steps)

pub array_body-padding-requires-clause-end : goal.array_body-padding-requires-clause-end
unfolding array_body_at
array_body-padding-requires-clause-end t c = grind (arith, common_steps)

pub array_body-returns-in_err-start-clause-read : goal.array_body-returns-in_err-start-clause-read
unfolding array_body_at
array_body-returns-in_err-start-clause-read t c = grind (arith, common_steps)

pub array_body-returns-in_err-start-clause-within : goal.array_body-returns-in_err-start-clause-within
unfolding array_body_at
array_body-returns-in_err-start-clause-within t c = grind (arith, common_steps)

pub array_body-items_of-requires : goal.array_body-items_of-requires
unfolding array_body_at
array_body-items_of-requires t c = grind (arith, common_steps)

pub array_body-returns-in_err-items-clause-read : goal.array_body-returns-in_err-items-clause-read
unfolding array_body_at
array_body-returns-in_err-items-clause-read t c = grind (arith, common_steps)

pub array_body-returns-in_err-items-clause-within : goal.array_body-returns-in_err-items-clause-within
unfolding array_body_at
array_body-returns-in_err-items-clause-within t c = grind (arith, common_steps)

pub array_body-returns-clause-within : goal.array_body-returns-clause-within
unfolding array_body_at
array_body-returns-clause-within t c = grind (arith, common_steps)

pub dictionary-array_front-requires-clause-align : goal.dictionary-array_front-requires-clause-align
unfolding dictionary_at
dictionary-array_front-requires-clause-align t c = grind (arith, common_steps)

pub dictionary-array_front-requires-clause-at : goal.dictionary-array_front-requires-clause-at
unfolding dictionary_at
dictionary-array_front-requires-clause-at t c = grind (arith, common_steps)

pub dictionary-array_front-requires-clause-end : goal.dictionary-array_front-requires-clause-end
unfolding dictionary_at
dictionary-array_front-requires-clause-end t c = grind (arith, common_steps)

pub dictionary-returns-in_err-place-clause-read : goal.dictionary-returns-in_err-place-clause-read
unfolding dictionary_at
dictionary-returns-in_err-place-clause-read t c = grind (arith, common_steps)

pub dictionary-returns-in_err-place-clause-within : goal.dictionary-returns-in_err-place-clause-within
unfolding dictionary_at
dictionary-returns-in_err-place-clause-within t c = grind (arith, common_steps)

pub dictionary-bad-requires : goal.dictionary-bad-requires
unfolding dictionary_at
dictionary-bad-requires t c = grind (arith, common_steps)

pub dictionary-returns-then-levels-eq0-clause-read : goal.dictionary-returns-then-levels-eq0-clause-read
unfolding dictionary_at
dictionary-returns-then-levels-eq0-clause-read t c = grind (arith, common_steps)

pub dictionary-overflow_sub-levels : goal.dictionary-overflow_sub-levels
unfolding dictionary_at
dictionary-overflow_sub-levels t c = grind (arith, common_steps)

pub dictionary-dictionary_body-requires : goal.dictionary-dictionary_body-requires
unfolding dictionary_at
dictionary-dictionary_body-requires t c = grind (arith, common_steps)

pub dictionary-returns-clause-read : goal.dictionary-returns-clause-read
unfolding dictionary_at
dictionary-returns-clause-read t c = grind (arith, common_steps)

pub dictionary-returns-clause-within : goal.dictionary-returns-clause-within
unfolding dictionary_at
dictionary-returns-clause-within t c = grind (arith, common_steps)

pub dictionary_body-u32_at-len-requires : goal.dictionary_body-u32_at-len-requires
unfolding array_body_at
dictionary_body-u32_at-len-requires t c = grind (arith, common_steps)

pub dictionary_body-overflow_cast-len : goal.dictionary_body-overflow_cast-len
unfolding array_body_at
dictionary_body-overflow_cast-len t c = grind (arith, common_steps)

pub dictionary_body-overflow_add-unpadded : goal.dictionary_body-overflow_add-unpadded
unfolding array_body_at
dictionary_body-overflow_add-unpadded t c = grind (arith, common_steps)

pub dictionary_body-overflow_sub-inside : goal.dictionary_body-overflow_sub-inside
unfolding array_body_at
dictionary_body-overflow_sub-inside t c = grind (arith, common_steps)

pub dictionary_body-overflow_add-inside : goal.dictionary_body-overflow_add-inside
unfolding array_body_at
dictionary_body-overflow_add-inside t c = grind (arith, common_steps)

pub dictionary_body-overflow_add-inside-2 : goal.dictionary_body-overflow_add-inside-2
unfolding array_body_at
dictionary_body-overflow_add-inside-2 t c = grind (arith, common_steps)

pub dictionary_body-padding-requires-clause-align : goal.dictionary_body-padding-requires-clause-align
unfolding array_body_at
dictionary_body-padding-requires-clause-align t c = grind (arith, common_steps)

pub dictionary_body-padding-requires-clause-at : goal.dictionary_body-padding-requires-clause-at
unfolding array_body_at
dictionary_body-padding-requires-clause-at t c = grind (arith, common_steps)

pub dictionary_body-padding-requires-clause-end : goal.dictionary_body-padding-requires-clause-end
unfolding array_body_at
dictionary_body-padding-requires-clause-end t c = grind (arith, common_steps)

pub dictionary_body-returns-in_err-start-clause-read : goal.dictionary_body-returns-in_err-start-clause-read
unfolding array_body_at
dictionary_body-returns-in_err-start-clause-read t c = grind (arith, common_steps)

pub dictionary_body-returns-in_err-start-clause-within : goal.dictionary_body-returns-in_err-start-clause-within
unfolding array_body_at
dictionary_body-returns-in_err-start-clause-within t c = grind (arith, common_steps)

pub dictionary_body-entries-requires : goal.dictionary_body-entries-requires
unfolding array_body_at
dictionary_body-entries-requires t c = grind (arith, common_steps)

pub dictionary_body-returns-in_err-pairs-clause-read : goal.dictionary_body-returns-in_err-pairs-clause-read
unfolding array_body_at
dictionary_body-returns-in_err-pairs-clause-read t c = grind (arith, common_steps)

pub dictionary_body-returns-in_err-pairs-clause-within : goal.dictionary_body-returns-in_err-pairs-clause-within
unfolding array_body_at
dictionary_body-returns-in_err-pairs-clause-within t c = grind (arith, common_steps)

pub dictionary_body-returns-clause-within : goal.dictionary_body-returns-clause-within
unfolding array_body_at
dictionary_body-returns-clause-within t c = grind (arith, common_steps)

pub elements-loop-init : goal.elements-loop-init
elements-loop-init t c = grind (arith, common_steps)

pub elements-returns-then-at-inside : goal.elements-returns-then-at-inside
elements-returns-then-at-inside t c = grind (arith, common_steps)

pub elements-value-requires : goal.elements-value-requires
elements-value-requires t c = grind (arith, common_steps)

pub elements-returns-in_err-item : goal.elements-returns-in_err-item
elements-returns-in_err-item t c = grind (arith, common_steps)

pub elements-returns-in_err-push : goal.elements-returns-in_err-push
elements-returns-in_err-push t c = grind (arith, common_steps)

pub elements-loop-smaller : goal.elements-loop-smaller
elements-loop-smaller t c = grind (arith, common_steps)

pub elements-returns : goal.elements-returns
elements-returns t c = grind (arith, common_steps)

pub entries-loop-init : goal.entries-loop-init
entries-loop-init t c = grind (arith, common_steps)

pub entries-returns-then-at-inside : goal.entries-returns-then-at-inside
entries-returns-then-at-inside t c = grind (arith, common_steps)

pub entries-entry-requires : goal.entries-entry-requires
entries-entry-requires t c = grind (arith, common_steps)

pub entries-returns-in_err-first : goal.entries-returns-in_err-first
entries-returns-in_err-first t c = grind (arith, common_steps)

pub entries-returns-in_err-push : goal.entries-returns-in_err-push
entries-returns-in_err-push t c = grind (arith, common_steps)

pub entries-loop-smaller : goal.entries-loop-smaller
entries-loop-smaller t c = grind (arith, common_steps)

pub entries-returns : goal.entries-returns
entries-returns t c = grind (arith, common_steps)

pub entry-pair-requires : goal.entry-pair-requires
entry-pair-requires t c = grind (arith, common_steps)

pub entry-returns-clause-within : goal.entry-returns-clause-within
entry-returns-clause-within t c = grind (arith, common_steps)

pub fields_of-returns-in_err-items-clause-read : goal.fields_of-returns-in_err-items-clause-read
fields_of-returns-in_err-items-clause-read t c = grind (arith, common_steps)

pub fields_of-returns-in_err-items-clause-within : goal.fields_of-returns-in_err-items-clause-within
fields_of-returns-in_err-items-clause-within t c = grind (arith, common_steps)

pub fields_of-loop-field-init : goal.fields_of-loop-field-init
fields_of-loop-field-init t c = grind (arith, common_steps)

pub fields_of-offset_bounds-fields-field-index : goal.fields_of-offset_bounds-fields-field-index
fields_of-offset_bounds-fields-field-index t c = grind (arith, common_steps)

pub fields_of-value-requires : goal.fields_of-value-requires
fields_of-value-requires t c = grind (arith, common_steps)

pub fields_of-returns-in_err-item-clause-read : goal.fields_of-returns-in_err-item-clause-read
fields_of-returns-in_err-item-clause-read t c = grind (arith, common_steps)

pub fields_of-returns-in_err-item-clause-within : goal.fields_of-returns-in_err-item-clause-within
fields_of-returns-in_err-item-clause-within t c = grind (arith, common_steps)

pub fields_of-returns-in_err-push-clause-read : goal.fields_of-returns-in_err-push-clause-read
fields_of-returns-in_err-push-clause-read t c = grind (arith, common_steps)

pub fields_of-returns-in_err-push-clause-within : goal.fields_of-returns-in_err-push-clause-within
fields_of-returns-in_err-push-clause-within t c = grind (arith, common_steps)

pub fields_of-loop-field-smaller : goal.fields_of-loop-field-smaller
fields_of-loop-field-smaller t c = grind (arith, common_steps)

pub fields_of-loop-field-preserved : goal.fields_of-loop-field-preserved
fields_of-loop-field-preserved t c = grind (arith, common_steps)

pub fields_of-returns-clause-read : goal.fields_of-returns-clause-read
fields_of-returns-clause-read t c = grind (arith, common_steps)

pub fields_of-returns-clause-within : goal.fields_of-returns-clause-within
fields_of-returns-clause-within t c = grind (arith, common_steps)

pub inner_item-byte_at-len-requires : goal.inner_item-byte_at-len-requires
unfolding inner_at
inner_item-byte_at-len-requires t c = grind (arith, common_steps)

pub inner_item-overflow_cast-len : goal.inner_item-overflow_cast-len
unfolding inner_at
inner_item-overflow_cast-len t c = grind (arith, common_steps)

pub inner_item-bad-requires : goal.inner_item-bad-requires
unfolding inner_at
inner_item-bad-requires t c = grind (arith, common_steps)

pub inner_item-returns-then-levels-eq0-clause-read : goal.inner_item-returns-then-levels-eq0-clause-read
unfolding inner_at
inner_item-returns-then-levels-eq0-clause-read t c = grind (arith, common_steps)

pub inner_item-overflow_add-place : goal.inner_item-overflow_add-place
unfolding inner_at
inner_item-overflow_add-place t c = grind (arith, common_steps)

pub inner_item-overflow_add-place-2 : goal.inner_item-overflow_add-place-2
unfolding inner_at
inner_item-overflow_add-place-2 t c = grind (arith, common_steps)

pub inner_item-byte_at-requires : goal.inner_item-byte_at-requires
unfolding inner_at
inner_item-byte_at-requires t c = grind (arith, common_steps)

pub inner_item-overflow_add-place-then-byte_at-ne0 : goal.inner_item-overflow_add-place-then-byte_at-ne0
unfolding inner_at
inner_item-overflow_add-place-then-byte_at-ne0 t c = grind (arith, common_steps)

pub inner_item-overflow_add-place-then-byte_at-ne0-2 : goal.inner_item-overflow_add-place-then-byte_at-ne0-2
unfolding inner_at
inner_item-overflow_add-place-then-byte_at-ne0-2 t c = grind (arith, common_steps)

pub inner_item-bad-requires-then-byte_at-ne0 : goal.inner_item-bad-requires-then-byte_at-ne0
unfolding inner_at
inner_item-bad-requires-then-byte_at-ne0 t c = grind (arith, common_steps)

pub inner_item-returns-then-byte_at-ne0-clause-read : goal.inner_item-returns-then-byte_at-ne0-clause-read
unfolding inner_at
inner_item-returns-then-byte_at-ne0-clause-read t c = grind (arith, common_steps)

pub inner_item-overflow_sub-levels : goal.inner_item-overflow_sub-levels
unfolding inner_at
inner_item-overflow_sub-levels t c = grind (arith, common_steps)

pub inner_item-overflow_add-place-3 : goal.inner_item-overflow_add-place-3
unfolding inner_at
inner_item-overflow_add-place-3 t c = grind (arith, common_steps)

pub inner_item-overflow_add-place-4 : goal.inner_item-overflow_add-place-4
unfolding inner_at
inner_item-overflow_add-place-4 t c = grind (arith, common_steps)

pub inner_item-value-requires : goal.inner_item-value-requires
unfolding inner_at
inner_item-value-requires t c = grind (arith, common_steps)

pub inner_item-returns-in_err-item-clause-read : goal.inner_item-returns-in_err-item-clause-read
unfolding inner_at
inner_item-returns-in_err-item-clause-read t c = grind (arith, common_steps)

pub inner_item-returns-in_err-item-clause-within : goal.inner_item-returns-in_err-item-clause-within
unfolding inner_at
inner_item-returns-in_err-item-clause-within t c = grind (arith, common_steps)

pub inner_item-returns-in_err-new-clause-read : goal.inner_item-returns-in_err-new-clause-read
unfolding inner_at
inner_item-returns-in_err-new-clause-read t c = grind (arith, common_steps)

pub inner_item-returns-in_err-new-clause-within : goal.inner_item-returns-in_err-new-clause-within
unfolding inner_at
inner_item-returns-in_err-new-clause-within t c = grind (arith, common_steps)

pub inner_item-returns-clause-within : goal.inner_item-returns-clause-within
unfolding inner_at
inner_item-returns-clause-within t c = grind (arith, common_steps)

pub items_of-bytes-requires : goal.items_of-bytes-requires
items_of-bytes-requires t c = grind (arith, common_steps)

pub items_of-elements-requires : goal.items_of-elements-requires
items_of-elements-requires t c = grind (arith, common_steps)

pub items_of-returns : goal.items_of-returns
items_of-returns t c = grind (arith, common_steps)

pub pair-padding-requires-clause-align : goal.pair-padding-requires-clause-align
unfolding structure_at
pair-padding-requires-clause-align t c = grind (arith, common_steps)

pub pair-padding-requires-clause-at : goal.pair-padding-requires-clause-at
unfolding structure_at
pair-padding-requires-clause-at t c = grind (arith, common_steps)

pub pair-padding-requires-clause-end : goal.pair-padding-requires-clause-end
unfolding structure_at
pair-padding-requires-clause-end t c = grind (arith, common_steps)

pub pair-returns-in_err-place-clause-read : goal.pair-returns-in_err-place-clause-read
unfolding structure_at
pair-returns-in_err-place-clause-read t c = grind (arith, common_steps)

pub pair-returns-in_err-place-clause-within : goal.pair-returns-in_err-place-clause-within
unfolding structure_at
pair-returns-in_err-place-clause-within t c = grind (arith, common_steps)

pub pair-too_deep-requires : goal.pair-too_deep-requires
unfolding structure_at
pair-too_deep-requires t c = grind (arith, common_steps)

pub pair-returns-then-levels-eq0-clause-read : goal.pair-returns-then-levels-eq0-clause-read
unfolding structure_at
pair-returns-then-levels-eq0-clause-read t c = grind (arith, common_steps)

pub pair-overflow_sub-levels : goal.pair-overflow_sub-levels
unfolding structure_at
pair-overflow_sub-levels t c = grind (arith, common_steps)

pub pair-value-requires : goal.pair-value-requires
unfolding structure_at
pair-value-requires t c = grind (arith, common_steps)

pub pair-returns-in_err-first-clause-read : goal.pair-returns-in_err-first-clause-read
unfolding structure_at
pair-returns-in_err-first-clause-read t c = grind (arith, common_steps)

pub pair-returns-in_err-first-clause-within : goal.pair-returns-in_err-first-clause-within
unfolding structure_at
pair-returns-in_err-first-clause-within t c = grind (arith, common_steps)

pub pair-overflow_sub-levels-2 : goal.pair-overflow_sub-levels-2
unfolding structure_at
pair-overflow_sub-levels-2 t c = grind (arith, common_steps)

pub pair-value-requires-2 : goal.pair-value-requires-2
unfolding structure_at
pair-value-requires-2 t c = grind (arith, common_steps)

pub single-byte_value-requires-clause-at : goal.single-byte_value-requires-clause-at
single-byte_value-requires-clause-at t c = grind (arith, common_steps)

pub single-byte_value-requires-clause-end : goal.single-byte_value-requires-clause-end
single-byte_value-requires-clause-end t c = grind (arith, common_steps)

pub single-boolean_value-requires-clause-at : goal.single-boolean_value-requires-clause-at
single-boolean_value-requires-clause-at t c = grind (arith, common_steps)

pub single-boolean_value-requires-clause-end : goal.single-boolean_value-requires-clause-end
single-boolean_value-requires-clause-end t c = grind (arith, common_steps)

pub single-i16_value-requires-clause-at : goal.single-i16_value-requires-clause-at
single-i16_value-requires-clause-at t c = grind (arith, common_steps)

pub single-i16_value-requires-clause-end : goal.single-i16_value-requires-clause-end
single-i16_value-requires-clause-end t c = grind (arith, common_steps)

pub single-u16_value-requires-clause-at : goal.single-u16_value-requires-clause-at
single-u16_value-requires-clause-at t c = grind (arith, common_steps)

pub single-u16_value-requires-clause-end : goal.single-u16_value-requires-clause-end
single-u16_value-requires-clause-end t c = grind (arith, common_steps)

pub single-i32_value-requires-clause-at : goal.single-i32_value-requires-clause-at
single-i32_value-requires-clause-at t c = grind (arith, common_steps)

pub single-i32_value-requires-clause-end : goal.single-i32_value-requires-clause-end
single-i32_value-requires-clause-end t c = grind (arith, common_steps)

pub single-u32_value-requires-clause-at : goal.single-u32_value-requires-clause-at
single-u32_value-requires-clause-at t c = grind (arith, common_steps)

pub single-u32_value-requires-clause-end : goal.single-u32_value-requires-clause-end
single-u32_value-requires-clause-end t c = grind (arith, common_steps)

pub single-i64_value-requires-clause-at : goal.single-i64_value-requires-clause-at
single-i64_value-requires-clause-at t c = grind (arith, common_steps)

pub single-i64_value-requires-clause-end : goal.single-i64_value-requires-clause-end
single-i64_value-requires-clause-end t c = grind (arith, common_steps)

pub single-u64_value-requires-clause-at : goal.single-u64_value-requires-clause-at
single-u64_value-requires-clause-at t c = grind (arith, common_steps)

pub single-u64_value-requires-clause-end : goal.single-u64_value-requires-clause-end
single-u64_value-requires-clause-end t c = grind (arith, common_steps)

pub single-double_value-requires-clause-at : goal.single-double_value-requires-clause-at
single-double_value-requires-clause-at t c = grind (arith, common_steps)

pub single-double_value-requires-clause-end : goal.single-double_value-requires-clause-end
single-double_value-requires-clause-end t c = grind (arith, common_steps)

pub single-text_value-requires-clause-at : goal.single-text_value-requires-clause-at
single-text_value-requires-clause-at t c = grind (arith, common_steps)

pub single-text_value-requires-clause-end : goal.single-text_value-requires-clause-end
single-text_value-requires-clause-end t c = grind (arith, common_steps)

pub single-path_value-requires-clause-at : goal.single-path_value-requires-clause-at
single-path_value-requires-clause-at t c = grind (arith, common_steps)

pub single-path_value-requires-clause-end : goal.single-path_value-requires-clause-end
single-path_value-requires-clause-end t c = grind (arith, common_steps)

pub single-signature_value-requires-clause-at : goal.single-signature_value-requires-clause-at
single-signature_value-requires-clause-at t c = grind (arith, common_steps)

pub single-signature_value-requires-clause-end : goal.single-signature_value-requires-clause-end
single-signature_value-requires-clause-end t c = grind (arith, common_steps)

pub single-array-requires : goal.single-array-requires
single-array-requires t c = grind (arith, common_steps)

pub single-bad-requires : goal.single-bad-requires
single-bad-requires t c = grind (arith, common_steps)

pub single-variant-requires : goal.single-variant-requires
single-variant-requires t c = grind (arith, common_steps)

pub single-dictionary-requires : goal.single-dictionary-requires
single-dictionary-requires t c = grind (arith, common_steps)

pub single-returns-in-Byte-clause-within : goal.single-returns-in-Byte-clause-within
single-returns-in-Byte-clause-within t c = grind (arith, common_steps)

pub single-returns-in-Bool-clause-within : goal.single-returns-in-Bool-clause-within
single-returns-in-Bool-clause-within t c = grind (arith, common_steps)

pub single-returns-in-I16-clause-within : goal.single-returns-in-I16-clause-within
single-returns-in-I16-clause-within t c = grind (arith, common_steps)

pub single-returns-in-U16-clause-within : goal.single-returns-in-U16-clause-within
single-returns-in-U16-clause-within t c = grind (arith, common_steps)

pub single-returns-in-I32-clause-within : goal.single-returns-in-I32-clause-within
single-returns-in-I32-clause-within t c = grind (arith, common_steps)

pub single-returns-in-U32-clause-within : goal.single-returns-in-U32-clause-within
single-returns-in-U32-clause-within t c = grind (arith, common_steps)

pub single-returns-in-I64-clause-within : goal.single-returns-in-I64-clause-within
single-returns-in-I64-clause-within t c = grind (arith, common_steps)

pub single-returns-in-U64-clause-within : goal.single-returns-in-U64-clause-within
single-returns-in-U64-clause-within t c = grind (arith, common_steps)

pub single-returns-in-Double-clause-within : goal.single-returns-in-Double-clause-within
single-returns-in-Double-clause-within t c = grind (arith, common_steps)

pub single-returns-in-Text-clause-within : goal.single-returns-in-Text-clause-within
single-returns-in-Text-clause-within t c = grind (arith, common_steps)

pub single-returns-in-Path-clause-within : goal.single-returns-in-Path-clause-within
single-returns-in-Path-clause-within t c = grind (arith, common_steps)

pub single-returns-in-Sig-clause-within : goal.single-returns-in-Sig-clause-within
single-returns-in-Sig-clause-within t c = grind (arith, common_steps)

pub single-returns-in-Array-clause-within : goal.single-returns-in-Array-clause-within
single-returns-in-Array-clause-within t c = grind (arith, common_steps)

pub single-returns-in-Variant-clause-within : goal.single-returns-in-Variant-clause-within
single-returns-in-Variant-clause-within t c = grind (arith, common_steps)

pub single-returns-in-Dict-clause-within : goal.single-returns-in-Dict-clause-within
single-returns-in-Dict-clause-within t c = grind (arith, common_steps)

pub structure-padding-requires-clause-align : goal.structure-padding-requires-clause-align
unfolding structure_at
structure-padding-requires-clause-align t c = grind (arith, common_steps)

pub structure-padding-requires-clause-at : goal.structure-padding-requires-clause-at
unfolding structure_at
structure-padding-requires-clause-at t c = grind (arith, common_steps)

pub structure-padding-requires-clause-end : goal.structure-padding-requires-clause-end
unfolding structure_at
structure-padding-requires-clause-end t c = grind (arith, common_steps)

pub structure-returns-in_err-place-clause-read : goal.structure-returns-in_err-place-clause-read
unfolding structure_at
structure-returns-in_err-place-clause-read t c = grind (arith, common_steps)

pub structure-returns-in_err-place-clause-within : goal.structure-returns-in_err-place-clause-within
unfolding structure_at
structure-returns-in_err-place-clause-within t c = grind (arith, common_steps)

pub structure-bad-requires : goal.structure-bad-requires
unfolding structure_at
structure-bad-requires t c = grind (arith, common_steps)

pub structure-bounds-fields-0 : goal.structure-bounds-fields-0
unfolding structure_at
structure-bounds-fields-0 t c = grind (arith, common_steps)

pub structure-too_deep-requires : goal.structure-too_deep-requires
unfolding structure_at
structure-too_deep-requires t c = grind (arith, common_steps)

pub structure-returns-then-levels-eq0-clause-read : goal.structure-returns-then-levels-eq0-clause-read
unfolding structure_at
structure-returns-then-levels-eq0-clause-read t c = grind (arith, common_steps)

pub structure-overflow_sub-levels : goal.structure-overflow_sub-levels
unfolding structure_at
structure-overflow_sub-levels t c = grind (arith, common_steps)

pub structure-fields_of-requires : goal.structure-fields_of-requires
unfolding structure_at
structure-fields_of-requires t c = grind (arith, common_steps)

pub structure-returns-in_err-items-clause-read : goal.structure-returns-in_err-items-clause-read
unfolding structure_at
structure-returns-in_err-items-clause-read t c = grind (arith, common_steps)

pub structure-returns-in_err-items-clause-within : goal.structure-returns-in_err-items-clause-within
unfolding structure_at
structure-returns-in_err-items-clause-within t c = grind (arith, common_steps)

pub structure-returns-clause-within : goal.structure-returns-clause-within
unfolding structure_at
structure-returns-clause-within t c = grind (arith, common_steps)

pub too_deep-single-requires : goal.too_deep-single-requires
too_deep-single-requires t c = grind (arith, common_steps)

pub too_deep-overflow_cast-fault : goal.too_deep-overflow_cast-fault
too_deep-overflow_cast-fault t c = grind (arith, common_steps)

pub too_deep-returns-then-fault-place : goal.too_deep-returns-then-fault-place
too_deep-returns-then-fault-place t c = grind (arith, common_steps)

pub too_deep-bad-requires : goal.too_deep-bad-requires
too_deep-bad-requires t c = grind (arith, common_steps)

pub too_deep-bad-requires-in-Ok : goal.too_deep-bad-requires-in-Ok
too_deep-bad-requires-in-Ok t c = grind (arith, common_steps)

pub value-structure-requires : goal.value-structure-requires
value-structure-requires t c = grind (arith, common_steps)

pub value-single-requires : goal.value-single-requires
value-single-requires t c = grind (arith, common_steps)

pub value-returns-in-Some-clause-within : goal.value-returns-in-Some-clause-within
value-returns-in-Some-clause-within t c = grind (arith, common_steps)

pub value-returns-in-None-clause-within : goal.value-returns-in-None-clause-within
value-returns-in-None-clause-within t c = grind (arith, common_steps)

pub variant-short-requires-clause-at : goal.variant-short-requires-clause-at
unfolding short_at
variant-short-requires-clause-at t c = grind (arith, common_steps)

pub variant-short-requires-clause-end : goal.variant-short-requires-clause-end
unfolding short_at
variant-short-requires-clause-end t c = grind (arith, common_steps)

pub variant-returns-in_err-place-clause-read : goal.variant-returns-in_err-place-clause-read
unfolding short_at
variant-returns-in_err-place-clause-read t c = grind (arith, common_steps)

pub variant-returns-in_err-place-clause-within : goal.variant-returns-in_err-place-clause-within
unfolding short_at
variant-returns-in_err-place-clause-within t c = grind (arith, common_steps)

pub variant-variant_body-requires : goal.variant-variant_body-requires
unfolding short_at
variant-variant_body-requires t c = grind (arith, common_steps)

pub variant-returns-clause-read : goal.variant-returns-clause-read
unfolding short_at
variant-returns-clause-read t c = grind (arith, common_steps)

pub variant-returns-clause-within : goal.variant-returns-clause-within
unfolding short_at
variant-returns-clause-within t c = grind (arith, common_steps)

pub variant_body-plain_type-requires : goal.variant_body-plain_type-requires
unfolding variant_body_at
variant_body-plain_type-requires t c = grind (arith, common_steps)

pub variant_body-inner-requires : goal.variant_body-inner-requires
unfolding variant_body_at
variant_body-inner-requires t c = grind (arith, common_steps)

pub variant_body-returns-in-Some-clause-read : goal.variant_body-returns-in-Some-clause-read
unfolding variant_body_at
variant_body-returns-in-Some-clause-read t c = grind (arith, common_steps)

pub variant_body-returns-in-Some-clause-within : goal.variant_body-returns-in-Some-clause-within
unfolding variant_body_at
variant_body-returns-in-Some-clause-within t c = grind (arith, common_steps)

pub variant_body-signature_at-requires : goal.variant_body-signature_at-requires
unfolding variant_body_at
variant_body-signature_at-requires t c = grind (arith, common_steps)

pub variant_body-inner-requires-in-Some-single : goal.variant_body-inner-requires-in-Some-single
unfolding variant_body_at
variant_body-inner-requires-in-Some-single t c = grind (arith, common_steps)

pub variant_body-bad-requires : goal.variant_body-bad-requires
unfolding variant_body_at
variant_body-bad-requires t c = grind (arith, common_steps)

pub variant_body-bad-requires-then-levels-eq0 : goal.variant_body-bad-requires-then-levels-eq0
unfolding variant_body_at
variant_body-bad-requires-then-levels-eq0 t c = grind (arith, common_steps)

pub variant_body-returns-then-levels-eq0-clause-read : goal.variant_body-returns-then-levels-eq0-clause-read
unfolding variant_body_at
variant_body-returns-then-levels-eq0-clause-read t c = grind (arith, common_steps)

pub variant_body-overflow_add-place : goal.variant_body-overflow_add-place
unfolding variant_body_at
variant_body-overflow_add-place t c = grind (arith, common_steps)

pub variant_body-overflow_cast-fault : goal.variant_body-overflow_cast-fault
unfolding variant_body_at
variant_body-overflow_cast-fault t c = grind (arith, common_steps)

pub variant_body-overflow_add-place-in-Err-Bad : goal.variant_body-overflow_add-place-in-Err-Bad
unfolding variant_body_at
variant_body-overflow_add-place-in-Err-Bad t c = grind (arith, common_steps)

pub variant_body-bad-requires-in-Err-Bad : goal.variant_body-bad-requires-in-Err-Bad
unfolding variant_body_at
variant_body-bad-requires-in-Err-Bad t c = grind (arith, common_steps)

pub variant_body-returns-in-Some-single-clause-read : goal.variant_body-returns-in-Some-single-clause-read
unfolding variant_body_at
variant_body-returns-in-Some-single-clause-read t c = grind (arith, common_steps)

pub variant_body-returns-in-Some-single-clause-within : goal.variant_body-returns-in-Some-single-clause-within
unfolding variant_body_at
variant_body-returns-in-Some-single-clause-within t c = grind (arith, common_steps)

pub variant_body-returns-else-levels-eq0-clause-read : goal.variant_body-returns-else-levels-eq0-clause-read
unfolding variant_body_at
variant_body-returns-else-levels-eq0-clause-read t c = grind (arith, common_steps)

pub pair-returns-in-Ok-clause-read : goal.pair-returns-in-Ok-clause-read
unfolding structure_at
pair-returns-in-Ok-clause-read t c = grind (arith, common_steps)

pub pair-returns-in-Ok-clause-within : goal.pair-returns-in-Ok-clause-within
unfolding structure_at
pair-returns-in-Ok-clause-within t c = grind (arith, common_steps)

pub pair-returns-in-Err-clause-read : goal.pair-returns-in-Err-clause-read
unfolding structure_at
pair-returns-in-Err-clause-read t c = grind (arith, common_steps)

pub pair-returns-in-Err-clause-within : goal.pair-returns-in-Err-clause-within
unfolding structure_at
pair-returns-in-Err-clause-within t c = grind (arith, common_steps)

pub array_body-returns-in_err-array_of-clause-read : goal.array_body-returns-in_err-array_of-clause-read
unfolding array_body_at
array_body-returns-in_err-array_of-clause-read t c = grind (arith, common_steps)

pub dictionary_body-returns-in_err-dictionary_of-clause-read : goal.dictionary_body-returns-in_err-dictionary_of-clause-read
unfolding array_body_at
dictionary_body-returns-in_err-dictionary_of-clause-read t c = grind (arith, common_steps)

pub array_body-returns-in_err-array_of-clause-within : goal.array_body-returns-in_err-array_of-clause-within
unfolding array_body_at
array_body-returns-in_err-array_of-clause-within t c = grind (arith, common_steps)

pub dictionary_body-returns-in_err-dictionary_of-clause-within : goal.dictionary_body-returns-in_err-dictionary_of-clause-within
unfolding array_body_at
dictionary_body-returns-in_err-dictionary_of-clause-within t c = grind (arith, common_steps)

pub inner-inner_item-requires : goal.inner-inner_item-requires
inner-inner_item-requires t c = grind (arith, common_steps)

pub inner-returns-in-Ok-clause-within : goal.inner-returns-in-Ok-clause-within
inner-returns-in-Ok-clause-within t c = grind (arith, common_steps)

pub inner-returns-in-Err-clause-read : goal.inner-returns-in-Err-clause-read
inner-returns-in-Err-clause-read t c = grind (arith, common_steps)

pub inner-returns-in-Err-clause-within : goal.inner-returns-in-Err-clause-within
inner-returns-in-Err-clause-within t c = grind (arith, common_steps)

pub too_deep-returns-in-Ok : goal.too_deep-returns-in-Ok
too_deep-returns-in-Ok t c = grind (arith, common_steps)
