use Rattle.std.proofs.Common.{◌≡◌, ℕ, ◌+◌, ◌<◌, ◌≤◌, ◌-◌, length, ap, arith, rules}
use Rattle.std.proofs.lemmas.Grind.{common_steps}
use Rattle.std.proofs.lemmas.List.{length-append}
use Rattle.atspi_marshal.specs.Spelling.{padding, spellings}
use Rattle.std.proofs.lemmas.Result.{err_from_is_err_and}
use Rattle.atspi_types.specs.KindView.{kind_of}
use Rattle.atspi_types.specs.Kinds.{alignment}
use Rattle.atspi_types.specs.Data.{items_of}
use Rattle.atspi_types.specs.Borrowed.{ref_data}
use Rattle.atspi_types.specs.DataView.{data_of, all_data, all_pairs}
use Rattle.atspi_marshal.specs.Reading.{struct_of, structs_in}
use Rattle.atspi_marshal.proofs.WritingLists.{typed_at, values_first, values_step, values_done, values_refused, entry_at, bytes_write, front_self, front_behind, length_structs}
use Rattle.atspi_marshal.proofs.WritingContainers.{length_stands, all_typed, array_elements_refused, array_too_long, array_ended, entries_typed, dictionary_entries_refused, dictionary_too_long, dictionary_ended, struct_typed, struct_written, variant_written, entry_key_refused, entry_written}
use Rattle.atspi_marshal.proofs.writing.+put.Goals as goal

pub put_array-put_elements-requires : goal.put_array-put_elements-requires
put_array-put_elements-requires t c = (search rules, (c.in_ok-first.ensures.writes.within, all_typed (kind_of c.args.element.now) (items_of (all_data c.args.values.now)) c.requires.typed.1))

pub put_array-returns-in_err-next-clause-writes : goal.put_array-returns-in_err-next-clause-writes
put_array-returns-in_err-next-clause-writes t c =
    let p = err_from_is_err_and c.from_residual-in_err-next.result c.from_residual-in_err-next.ensures.1 in
    let begun = rw c.alignment.ensures at c.in_ok-first.ensures.writes in
    rw (p.1, p.2) (array_elements_refused c.args.order c.args.levels c.in_ok-inner.inner c.args.at c.in_ok-first.first (kind_of c.args.element.now) (items_of (all_data c.args.values.now)) c.args.out.now c.begin_array.new.out c.put_elements.new.out c.put_elements.new.out c.in_err-next.field-0.0 c.in_ok-inner.ensures c.requires.typed.1 begun c.in_err-next.ensures.writes)

pub put_array-end_array-requires : goal.put_array-end_array-requires
put_array-end_array-requires t c =
    let begun = rw c.alignment.ensures at c.in_ok-first.ensures.writes in
    let s = length_stands (alignment (kind_of c.args.element.now)) c.args.at c.in_ok-first.first c.args.out.now c.begin_array.new.out begun in
    let els = spellings c.args.order c.in_ok-first.first (items_of (all_data c.args.values.now)) in
    omega (arith, s.room, ap length c.in_ok-next.ensures.writes.appended, length-append c.begin_array.new.out els, c.len.ensures, c.length_place.ensures)

pub put_array-returns-in_err-end_array-clause-writes : goal.put_array-returns-in_err-end_array-clause-writes
put_array-returns-in_err-end_array-clause-writes t c =
    let p = err_from_is_err_and c.from_residual-in_err-end_array.result c.from_residual-in_err-end_array.ensures.1 in
    let begun = rw c.alignment.ensures at c.in_ok-first.ensures.writes in
    rw (p.1, p.2) (array_too_long c.args.order c.args.levels c.in_ok-inner.inner c.args.at c.in_ok-first.first c.in_ok-next.next (kind_of c.args.element.now) (items_of (all_data c.args.values.now)) c.args.out.now c.begin_array.new.out c.put_elements.new.out c.end_array.new.out c.in_err-end_array.field-0.0 c.in_ok-inner.ensures c.requires.typed.1 begun c.in_ok-next.ensures.writes c.in_err-end_array.ensures.big.0 c.in_err-end_array.ensures.big.1)

pub put_array-returns-clause-writes : goal.put_array-returns-clause-writes
put_array-returns-clause-writes t c =
    let begun = rw c.alignment.ensures at c.in_ok-first.ensures.writes in
    let s = length_stands (alignment (kind_of c.args.element.now)) c.args.at c.in_ok-first.first c.args.out.now c.begin_array.new.out begun in
    let index = c.len.result - (c.in_ok-first.first - c.length_place.result) in
    let there : index ≡ length c.args.out.now + length (padding 4 c.args.at) = omega (arith, s.index, c.len.ensures, c.length_place.ensures) in
    array_ended c.args.order c.args.levels c.in_ok-inner.inner c.args.at c.in_ok-first.first c.in_ok-next.next index (kind_of c.args.element.now) (items_of (all_data c.args.values.now)) c.args.out.now c.begin_array.new.out c.put_elements.new.out c.end_array.new.out c.in_ok-inner.ensures c.requires.typed.1 begun c.in_ok-next.ensures.writes there c.in_ok-end_array.ensures.ok c.in_ok-end_array.ensures.short

pub put_dictionary-put_pairs-requires : goal.put_dictionary-put_pairs-requires
put_dictionary-put_pairs-requires t c = (search rules, (c.in_ok-first.ensures.writes.within, entries_typed (kind_of c.args.key.now) (kind_of c.args.value.now) (all_pairs c.args.pairs.now) c.requires.typed.2))

pub put_dictionary-returns-in_err-next-clause-writes : goal.put_dictionary-returns-in_err-next-clause-writes
put_dictionary-returns-in_err-next-clause-writes t c =
    let p = err_from_is_err_and c.from_residual-in_err-next.result c.from_residual-in_err-next.ensures.1 in
    rw (p.1, p.2) (dictionary_entries_refused c.args.order c.args.levels c.in_ok-inner.inner c.args.at c.in_ok-first.first (kind_of c.args.key.now) (kind_of c.args.value.now) (all_pairs c.args.pairs.now) c.args.out.now c.begin_array.new.out c.put_pairs.new.out c.put_pairs.new.out c.in_err-next.field-0.0 c.in_ok-inner.ensures c.requires.typed.2 c.in_ok-first.ensures.writes c.in_err-next.ensures.writes)

pub put_dictionary-end_array-requires : goal.put_dictionary-end_array-requires
put_dictionary-end_array-requires t c =
    let begun = c.in_ok-first.ensures.writes in
    let s = length_stands 8 c.args.at c.in_ok-first.first c.args.out.now c.begin_array.new.out begun in
    let els = spellings c.args.order c.in_ok-first.first (items_of (structs_in (all_pairs c.args.pairs.now))) in
    omega (arith, s.room, ap length c.in_ok-next.ensures.writes.appended, length-append c.begin_array.new.out els, c.len.ensures, c.length_place.ensures)

pub put_dictionary-returns-in_err-end_array-clause-writes : goal.put_dictionary-returns-in_err-end_array-clause-writes
put_dictionary-returns-in_err-end_array-clause-writes t c =
    let p = err_from_is_err_and c.from_residual-in_err-end_array.result c.from_residual-in_err-end_array.ensures.1 in
    rw (p.1, p.2) (dictionary_too_long c.args.order c.args.levels c.in_ok-inner.inner c.args.at c.in_ok-first.first c.in_ok-next.next (kind_of c.args.key.now) (kind_of c.args.value.now) (all_pairs c.args.pairs.now) c.args.out.now c.begin_array.new.out c.put_pairs.new.out c.end_array.new.out c.in_err-end_array.field-0.0 c.in_ok-inner.ensures c.requires.typed.2 c.in_ok-first.ensures.writes c.in_ok-next.ensures.writes c.in_err-end_array.ensures.big.0 c.in_err-end_array.ensures.big.1)

pub put_dictionary-returns-clause-writes : goal.put_dictionary-returns-clause-writes
put_dictionary-returns-clause-writes t c =
    let begun = c.in_ok-first.ensures.writes in
    let s = length_stands 8 c.args.at c.in_ok-first.first c.args.out.now c.begin_array.new.out begun in
    let index = c.len.result - (c.in_ok-first.first - c.length_place.result) in
    let there : index ≡ length c.args.out.now + length (padding 4 c.args.at) = omega (arith, s.index, c.len.ensures, c.length_place.ensures) in
    dictionary_ended c.args.order c.args.levels c.in_ok-inner.inner c.args.at c.in_ok-first.first c.in_ok-next.next index (kind_of c.args.key.now) (kind_of c.args.value.now) (all_pairs c.args.pairs.now) c.args.out.now c.begin_array.new.out c.put_pairs.new.out c.end_array.new.out c.in_ok-inner.ensures c.requires.typed.2 begun c.in_ok-next.ensures.writes there c.in_ok-end_array.ensures.ok c.in_ok-end_array.ensures.short

pub put_elements-returns-in-Bytes-clause-writes : goal.put_elements-returns-in-Bytes-clause-writes
put_elements-returns-in-Bytes-clause-writes t c =
    bytes_write c.args.order c.args.levels c.args.at c.in-Bytes.bytes.now (all_data c.args.values.now) c.args.out.now c.put_bytes.new.out c.put_bytes.result c.put_bytes.ensures.bytes c.in-Bytes.ensures c.put_bytes.ensures.writes

pub put_entry-returns-in_err-middle-clause-writes : goal.put_entry-returns-in_err-middle-clause-writes
put_entry-returns-in_err-middle-clause-writes t c =
    let p = err_from_is_err_and c.from_residual-in_err-middle.result c.from_residual-in_err-middle.ensures.1 in
    rw (p.1, p.2) (entry_key_refused c.args.order c.args.levels c.in_ok-inner.inner c.args.at c.in_ok-first.first (data_of c.args.key.now) (data_of c.args.value.now) (ref_data c.borrowed.result) c.args.out.now c.put_padding.new.out c.put.new.out c.put.new.out c.in_err-middle.field-0.0 c.in_ok-inner.ensures c.in_ok-first.ensures.pads c.borrowed.ensures c.in_err-middle.ensures.writes)

pub put_entry-returns-clause-writes : goal.put_entry-returns-clause-writes
put_entry-returns-clause-writes t c =
    entry_written c.args.order c.args.levels c.in_ok-inner.inner c.args.at c.in_ok-first.first c.in_ok-middle.middle (data_of c.args.key.now) (data_of c.args.value.now) (ref_data c.borrowed.result) (ref_data c.borrowed-2.result) c.args.out.now c.put_padding.new.out c.put.new.out c.put-2.new.out c.put-2.result c.in_ok-inner.ensures c.in_ok-first.ensures.pads c.borrowed.ensures c.in_ok-middle.ensures.writes c.borrowed-2.ensures c.put-2.ensures.writes

pub put_struct-put_values-requires : goal.put_struct-put_values-requires
put_struct-put_values-requires t c = (search rules, (omega (arith, c.in_ok-first.ensures.pads.within), struct_typed (items_of (all_data c.args.fields.now)) c.requires.typed))

pub put_struct-returns-clause-writes : goal.put_struct-returns-clause-writes
put_struct-returns-clause-writes t c = struct_written c.args.order c.args.levels c.in_ok-inner.inner c.args.at c.in_ok-first.first (items_of (all_data c.args.fields.now)) c.args.out.now c.put_padding.new.out c.put_values.new.out c.put_values.result c.in_ok-inner.ensures c.in_ok-first.ensures.pads c.put_values.ensures.writes

pub put_variant-returns-clause-writes : goal.put_variant-returns-clause-writes
put_variant-returns-clause-writes t c = variant_written c.args.order c.args.levels c.in_ok-inner.inner c.args.at c.in_ok-first.first (kind_of c.args.ty.now) (data_of c.args.value.now) (ref_data c.borrowed.result) c.args.out.now c.put_type.new.out c.put.new.out c.put.result c.in_ok-inner.ensures c.requires.typed c.in_ok-first.ensures.writes c.borrowed.ensures c.put.ensures.writes

pub put_values-loop-i-init : goal.put_values-loop-i-init
put_values-loop-i-init t c = (values_first c.args.order c.args.levels c.args.at (all_data c.args.values.now) c.args.out.now c.requires.place, front_self c.args.out.now)

pub put_values-put-requires : goal.put_values-put-requires
put_values-put-requires t c = (search rules, (c.loop-i.invariant.0.within, typed_at (all_data c.args.values.now) c.loop-i.i (ref_data c.at.result) c.at.ensures c.requires.typed))

pub put_values-returns-in_err-next-clause-writes : goal.put_values-returns-in_err-next-clause-writes
put_values-returns-in_err-next-clause-writes t c =
    let p = err_from_is_err_and c.from_residual.result c.from_residual.ensures.1 in
    rw (p.1, p.2) (values_refused c.args.order c.args.levels c.args.at c.loop-i.next (all_data c.args.values.now) c.loop-i.i (ref_data c.at.result) c.args.out.now c.loop-i.out c.put.new.out c.put.new.out c.in_err-next.field-0.0 c.at.ensures c.loop-i.invariant.0 c.in_err-next.ensures.writes)

pub put_values-returns-in_err-next-clause-front : goal.put_values-returns-in_err-next-clause-front
put_values-returns-in_err-next-clause-front t c = front_behind c.args.out.now c.loop-i.out c.put.new.out c.loop-i.invariant.1 c.in_err-next.ensures.front

pub put_values-loop-i-preserved : goal.put_values-loop-i-preserved
put_values-loop-i-preserved t c = (
  values_step c.args.order c.args.levels c.args.at c.loop-i.next c.in_ok-next.next (all_data c.args.values.now) c.loop-i.i (ref_data c.at.result) c.args.out.now c.loop-i.out c.put.new.out c.at.ensures c.loop-i.invariant.0 c.in_ok-next.ensures.writes,
  front_behind c.args.out.now c.loop-i.out c.put.new.out c.loop-i.invariant.1 c.in_ok-next.ensures.front,
)

pub put_values-returns-clause-writes : goal.put_values-returns-clause-writes
put_values-returns-clause-writes t c = values_done c.args.order c.args.levels c.args.at c.loop-i.next (all_data c.args.values.now) c.loop-i.i c.args.out.now c.loop-i.out (omega (arith, c.len-i-end.ensures)) c.loop-i.invariant.0

pub put_pairs-loop-pair-init : goal.put_pairs-loop-pair-init
put_pairs-loop-pair-init t c = (values_first c.args.order c.args.levels c.args.at (structs_in (all_pairs c.args.pairs.now)) c.args.out.now c.requires.place, front_self c.args.out.now)

pub put_pairs-put_entry-requires : goal.put_pairs-put_entry-requires
put_pairs-put_entry-requires t c =
    let ps = all_pairs c.args.pairs.now in
    let there = entry_at c.as_slice-pair-items.result.now ps c.loop-pair.pair-index c.pair-item.result c.as_slice-pair-items.ensures (omega arith) c.pair-item.is in
    let typed = typed_at (structs_in ps) c.loop-pair.pair-index (struct_of (data_of c.pair-item.result.0) (data_of c.pair-item.result.1)) there c.requires.typed in
    (search rules, (c.loop-pair.invariant.0.within, (typed.0, typed.1.0)))

pub put_pairs-returns-in_err-next-clause-writes : goal.put_pairs-returns-in_err-next-clause-writes
put_pairs-returns-in_err-next-clause-writes t c =
    let ps = all_pairs c.args.pairs.now in
    let there = entry_at c.as_slice-pair-items.result.now ps c.loop-pair.pair-index c.pair-item.result c.as_slice-pair-items.ensures (omega arith) c.pair-item.is in
    let p = err_from_is_err_and c.from_residual.result c.from_residual.ensures.1 in
    rw (p.1, p.2) (values_refused c.args.order c.args.levels c.args.at c.loop-pair.next (structs_in ps) c.loop-pair.pair-index (struct_of (data_of c.pair-item.result.0) (data_of c.pair-item.result.1)) c.args.out.now c.loop-pair.out c.put_entry.new.out c.put_entry.new.out c.in_err-next.field-0.0 there c.loop-pair.invariant.0 c.in_err-next.ensures.writes)

pub put_pairs-returns-in_err-next-clause-front : goal.put_pairs-returns-in_err-next-clause-front
put_pairs-returns-in_err-next-clause-front t c = front_behind c.args.out.now c.loop-pair.out c.put_entry.new.out c.loop-pair.invariant.1 c.in_err-next.ensures.front

pub put_pairs-loop-pair-preserved : goal.put_pairs-loop-pair-preserved
put_pairs-loop-pair-preserved t c =
    let ps = all_pairs c.args.pairs.now in
    let there = entry_at c.as_slice-pair-items.result.now ps c.loop-pair.pair-index c.pair-item.result c.as_slice-pair-items.ensures (omega arith) c.pair-item.is in (
      values_step c.args.order c.args.levels c.args.at c.loop-pair.next c.in_ok-next.next (structs_in ps) c.loop-pair.pair-index (struct_of (data_of c.pair-item.result.0) (data_of c.pair-item.result.1)) c.args.out.now c.loop-pair.out c.put_entry.new.out there c.loop-pair.invariant.0 c.in_ok-next.ensures.writes,
      front_behind c.args.out.now c.loop-pair.out c.put_entry.new.out c.loop-pair.invariant.1 c.in_ok-next.ensures.front,
    )

pub put_pairs-returns-clause-writes : goal.put_pairs-returns-clause-writes
put_pairs-returns-clause-writes t c =
    let ps = all_pairs c.args.pairs.now in
    values_done c.args.order c.args.levels c.args.at c.loop-pair.next (structs_in ps) c.loop-pair.pair-index c.args.out.now c.loop-pair.out (omega (arith, length_structs c.as_slice-pair-items.result.now ps c.as_slice-pair-items.ensures)) c.loop-pair.invariant.0

pub put-slice_bounds-put_padded-end : goal.put-slice_bounds-put_padded-end
put-slice_bounds-put_padded-end t c = grind (arith, common_steps)

pub put-put_padded-requires-clause-align : goal.put-put_padded-requires-clause-align
put-put_padded-requires-clause-align t c = grind (arith, common_steps)

pub put-put_padded-requires-clause-place : goal.put-put_padded-requires-clause-place
put-put_padded-requires-clause-place t c = grind (arith, common_steps)

pub put-put_u32-requires : goal.put-put_u32-requires
put-put_u32-requires t c = grind (arith, common_steps)

pub put-put_u16-requires : goal.put-put_u16-requires
put-put_u16-requires t c = grind (arith, common_steps)

pub put-put_u16-requires-in-U16 : goal.put-put_u16-requires-in-U16
put-put_u16-requires-in-U16 t c = grind (arith, common_steps)

pub put-put_u32-requires-in-I32 : goal.put-put_u32-requires-in-I32
put-put_u32-requires-in-I32 t c = grind (arith, common_steps)

pub put-put_u32-requires-in-U32 : goal.put-put_u32-requires-in-U32
put-put_u32-requires-in-U32 t c = grind (arith, common_steps)

pub put-put_u64-requires : goal.put-put_u64-requires
put-put_u64-requires t c = grind (arith, common_steps)

pub put-put_u64-requires-in-U64 : goal.put-put_u64-requires-in-U64
put-put_u64-requires-in-U64 t c = grind (arith, common_steps)

pub put-put_u64-requires-in-Double : goal.put-put_u64-requires-in-Double
put-put_u64-requires-in-Double t c = grind (arith, common_steps)

pub put-put_text-requires : goal.put-put_text-requires
put-put_text-requires t c = grind (arith, common_steps)

pub put-put_path-requires : goal.put-put_path-requires
put-put_path-requires t c = grind (arith, common_steps)

pub put-put_signature-requires : goal.put-put_signature-requires
put-put_signature-requires t c = grind (arith, common_steps)

pub put-put_array-requires : goal.put-put_array-requires
put-put_array-requires t c = grind (arith, common_steps)

pub put-put_struct-requires : goal.put-put_struct-requires
put-put_struct-requires t c = grind (arith, common_steps)

pub put-put_dictionary-requires : goal.put-put_dictionary-requires
put-put_dictionary-requires t c = grind (arith, common_steps)

pub put-put_variant-requires : goal.put-put_variant-requires
put-put_variant-requires t c = grind (arith, common_steps)

pub put-returns-in-Byte-clause-writes : goal.put-returns-in-Byte-clause-writes
put-returns-in-Byte-clause-writes t c = grind (arith, common_steps)

pub put-returns-in-Byte-clause-front : goal.put-returns-in-Byte-clause-front
put-returns-in-Byte-clause-front t c = grind (arith, common_steps)

pub put-returns-in-Bool-clause-writes : goal.put-returns-in-Bool-clause-writes
put-returns-in-Bool-clause-writes t c = grind (arith, common_steps)

pub put-returns-in-Bool-clause-front : goal.put-returns-in-Bool-clause-front
put-returns-in-Bool-clause-front t c = grind (arith, common_steps)

pub put-returns-in-I16-clause-writes : goal.put-returns-in-I16-clause-writes
put-returns-in-I16-clause-writes t c = grind (arith, common_steps)

pub put-returns-in-I16-clause-front : goal.put-returns-in-I16-clause-front
put-returns-in-I16-clause-front t c = grind (arith, common_steps)

pub put-returns-in-U16-clause-writes : goal.put-returns-in-U16-clause-writes
put-returns-in-U16-clause-writes t c = grind (arith, common_steps)

pub put-returns-in-U16-clause-front : goal.put-returns-in-U16-clause-front
put-returns-in-U16-clause-front t c = grind (arith, common_steps)

pub put-returns-in-I32-clause-writes : goal.put-returns-in-I32-clause-writes
put-returns-in-I32-clause-writes t c = grind (arith, common_steps)

pub put-returns-in-I32-clause-front : goal.put-returns-in-I32-clause-front
put-returns-in-I32-clause-front t c = grind (arith, common_steps)

pub put-returns-in-U32-clause-writes : goal.put-returns-in-U32-clause-writes
put-returns-in-U32-clause-writes t c = grind (arith, common_steps)

pub put-returns-in-U32-clause-front : goal.put-returns-in-U32-clause-front
put-returns-in-U32-clause-front t c = grind (arith, common_steps)

pub put-returns-in-I64-clause-front : goal.put-returns-in-I64-clause-front
put-returns-in-I64-clause-front t c = grind (arith, common_steps)

pub put-returns-in-U64-clause-writes : goal.put-returns-in-U64-clause-writes
put-returns-in-U64-clause-writes t c = grind (arith, common_steps)

pub put-returns-in-U64-clause-front : goal.put-returns-in-U64-clause-front
put-returns-in-U64-clause-front t c = grind (arith, common_steps)

pub put-returns-in-Double-clause-writes : goal.put-returns-in-Double-clause-writes
put-returns-in-Double-clause-writes t c = grind (arith, common_steps)

pub put-returns-in-Double-clause-front : goal.put-returns-in-Double-clause-front
put-returns-in-Double-clause-front t c = grind (arith, common_steps)

pub put-returns-in-Text-clause-writes : goal.put-returns-in-Text-clause-writes
put-returns-in-Text-clause-writes t c = grind (arith, common_steps)

pub put-returns-in-Text-clause-front : goal.put-returns-in-Text-clause-front
put-returns-in-Text-clause-front t c = grind (arith, common_steps)

pub put-returns-in-Path-clause-writes : goal.put-returns-in-Path-clause-writes
put-returns-in-Path-clause-writes t c = grind (arith, common_steps)

pub put-returns-in-Path-clause-front : goal.put-returns-in-Path-clause-front
put-returns-in-Path-clause-front t c = grind (arith, common_steps)

pub put-returns-in-Sig-clause-writes : goal.put-returns-in-Sig-clause-writes
put-returns-in-Sig-clause-writes t c = grind (arith, common_steps)

pub put-returns-in-Sig-clause-front : goal.put-returns-in-Sig-clause-front
put-returns-in-Sig-clause-front t c = grind (arith, common_steps)

pub put-returns-in-Array-clause-writes : goal.put-returns-in-Array-clause-writes
put-returns-in-Array-clause-writes t c = grind (arith, common_steps)

pub put-returns-in-Array-clause-front : goal.put-returns-in-Array-clause-front
put-returns-in-Array-clause-front t c = grind (arith, common_steps)

pub put-returns-in-Struct-clause-writes : goal.put-returns-in-Struct-clause-writes
put-returns-in-Struct-clause-writes t c = grind (arith, common_steps)

pub put-returns-in-Struct-clause-front : goal.put-returns-in-Struct-clause-front
put-returns-in-Struct-clause-front t c = grind (arith, common_steps)

pub put-returns-in-Dict-clause-writes : goal.put-returns-in-Dict-clause-writes
put-returns-in-Dict-clause-writes t c = grind (arith, common_steps)

pub put-returns-in-Dict-clause-front : goal.put-returns-in-Dict-clause-front
put-returns-in-Dict-clause-front t c = grind (arith, common_steps)

pub put-returns-in-Variant-clause-writes : goal.put-returns-in-Variant-clause-writes
put-returns-in-Variant-clause-writes t c = grind (arith, common_steps)

pub put-returns-in-Variant-clause-front : goal.put-returns-in-Variant-clause-front
put-returns-in-Variant-clause-front t c = grind (arith, common_steps)

pub put_array-returns-in_err-inner-clause-writes : goal.put_array-returns-in_err-inner-clause-writes
put_array-returns-in_err-inner-clause-writes t c = grind (arith, common_steps)

pub put_array-returns-in_err-inner-clause-front : goal.put_array-returns-in_err-inner-clause-front
put_array-returns-in_err-inner-clause-front t c = grind (arith, common_steps)

pub put_array-begin_array-requires-clause-align : goal.put_array-begin_array-requires-clause-align
put_array-begin_array-requires-clause-align t c = grind (arith, common_steps)

pub put_array-begin_array-requires-clause-place : goal.put_array-begin_array-requires-clause-place
put_array-begin_array-requires-clause-place t c = grind (arith, common_steps)

pub put_array-returns-in_err-first-clause-writes : goal.put_array-returns-in_err-first-clause-writes
put_array-returns-in_err-first-clause-writes t c = grind (arith, common_steps)

pub put_array-returns-in_err-first-clause-front : goal.put_array-returns-in_err-first-clause-front
put_array-returns-in_err-first-clause-front t c = grind (arith, common_steps)

pub put_array-length_place-requires : goal.put_array-length_place-requires
put_array-length_place-requires t c = grind (arith, common_steps)

pub put_array-overflow_sub-index : goal.put_array-overflow_sub-index
put_array-overflow_sub-index t c = grind (arith, common_steps)

pub put_array-overflow_sub-index-2 : goal.put_array-overflow_sub-index-2
put_array-overflow_sub-index-2 t c = grind (arith, common_steps)

pub put_array-returns-in_err-next-clause-front : goal.put_array-returns-in_err-next-clause-front
put_array-returns-in_err-next-clause-front t c = grind (arith, common_steps)

pub put_array-overflow_sub-next : goal.put_array-overflow_sub-next
put_array-overflow_sub-next t c = grind (arith, common_steps)

pub put_array-returns-in_err-end_array-clause-front : goal.put_array-returns-in_err-end_array-clause-front
put_array-returns-in_err-end_array-clause-front t c = grind (arith, common_steps)

pub put_array-returns-clause-front : goal.put_array-returns-clause-front
put_array-returns-clause-front t c = grind (arith, common_steps)

pub put_dictionary-returns-in_err-inner-clause-writes : goal.put_dictionary-returns-in_err-inner-clause-writes
put_dictionary-returns-in_err-inner-clause-writes t c = grind (arith, common_steps)

pub put_dictionary-returns-in_err-inner-clause-front : goal.put_dictionary-returns-in_err-inner-clause-front
put_dictionary-returns-in_err-inner-clause-front t c = grind (arith, common_steps)

pub put_dictionary-begin_array-requires-clause-align : goal.put_dictionary-begin_array-requires-clause-align
put_dictionary-begin_array-requires-clause-align t c = grind (arith, common_steps)

pub put_dictionary-begin_array-requires-clause-place : goal.put_dictionary-begin_array-requires-clause-place
put_dictionary-begin_array-requires-clause-place t c = grind (arith, common_steps)

pub put_dictionary-returns-in_err-first-clause-writes : goal.put_dictionary-returns-in_err-first-clause-writes
put_dictionary-returns-in_err-first-clause-writes t c = grind (arith, common_steps)

pub put_dictionary-returns-in_err-first-clause-front : goal.put_dictionary-returns-in_err-first-clause-front
put_dictionary-returns-in_err-first-clause-front t c = grind (arith, common_steps)

pub put_dictionary-length_place-requires : goal.put_dictionary-length_place-requires
put_dictionary-length_place-requires t c = grind (arith, common_steps)

pub put_dictionary-overflow_sub-index : goal.put_dictionary-overflow_sub-index
put_dictionary-overflow_sub-index t c = grind (arith, common_steps)

pub put_dictionary-overflow_sub-index-2 : goal.put_dictionary-overflow_sub-index-2
put_dictionary-overflow_sub-index-2 t c = grind (arith, common_steps)

pub put_dictionary-returns-in_err-next-clause-front : goal.put_dictionary-returns-in_err-next-clause-front
put_dictionary-returns-in_err-next-clause-front t c = grind (arith, common_steps)

pub put_dictionary-overflow_sub-next : goal.put_dictionary-overflow_sub-next
put_dictionary-overflow_sub-next t c = grind (arith, common_steps)

pub put_dictionary-returns-in_err-end_array-clause-front : goal.put_dictionary-returns-in_err-end_array-clause-front
put_dictionary-returns-in_err-end_array-clause-front t c = grind (arith, common_steps)

pub put_dictionary-returns-clause-front : goal.put_dictionary-returns-clause-front
put_dictionary-returns-clause-front t c = grind (arith, common_steps)

pub put_elements-put_bytes-requires : goal.put_elements-put_bytes-requires
put_elements-put_bytes-requires t c = grind (arith, common_steps)

pub put_elements-put_values-requires : goal.put_elements-put_values-requires
put_elements-put_values-requires t c = grind (arith, common_steps)

pub put_elements-returns-in-Bytes-clause-front : goal.put_elements-returns-in-Bytes-clause-front
put_elements-returns-in-Bytes-clause-front t c = grind (arith, common_steps)

pub put_elements-returns-in_default : goal.put_elements-returns-in_default
put_elements-returns-in_default t c = grind (arith, common_steps)

pub put_entry-returns-in_err-inner-clause-writes : goal.put_entry-returns-in_err-inner-clause-writes
put_entry-returns-in_err-inner-clause-writes t c = grind (arith, common_steps)

pub put_entry-returns-in_err-inner-clause-front : goal.put_entry-returns-in_err-inner-clause-front
put_entry-returns-in_err-inner-clause-front t c = grind (arith, common_steps)

pub put_entry-put_padding-requires-clause-align : goal.put_entry-put_padding-requires-clause-align
put_entry-put_padding-requires-clause-align t c = grind (arith, common_steps)

pub put_entry-put_padding-requires-clause-place : goal.put_entry-put_padding-requires-clause-place
put_entry-put_padding-requires-clause-place t c = grind (arith, common_steps)

pub put_entry-returns-in_err-first-clause-writes : goal.put_entry-returns-in_err-first-clause-writes
put_entry-returns-in_err-first-clause-writes t c = grind (arith, common_steps)

pub put_entry-returns-in_err-first-clause-front : goal.put_entry-returns-in_err-first-clause-front
put_entry-returns-in_err-first-clause-front t c = grind (arith, common_steps)

pub put_entry-put-requires : goal.put_entry-put-requires
put_entry-put-requires t c = grind (arith, common_steps)

pub put_entry-returns-in_err-middle-clause-front : goal.put_entry-returns-in_err-middle-clause-front
put_entry-returns-in_err-middle-clause-front t c = grind (arith, common_steps)

pub put_entry-put-requires-2 : goal.put_entry-put-requires-2
put_entry-put-requires-2 t c = grind (arith, common_steps)

pub put_entry-returns-clause-front : goal.put_entry-returns-clause-front
put_entry-returns-clause-front t c = grind (arith, common_steps)

pub put_pairs-offset_bounds-pair-items-pair-index : goal.put_pairs-offset_bounds-pair-items-pair-index
put_pairs-offset_bounds-pair-items-pair-index t c = grind (arith, common_steps)

pub put_pairs-loop-pair-smaller : goal.put_pairs-loop-pair-smaller
put_pairs-loop-pair-smaller t c = grind (arith, common_steps)

pub put_pairs-returns-clause-front : goal.put_pairs-returns-clause-front
put_pairs-returns-clause-front t c = grind (arith, common_steps)

pub put_struct-returns-in_err-inner-clause-writes : goal.put_struct-returns-in_err-inner-clause-writes
put_struct-returns-in_err-inner-clause-writes t c = grind (arith, common_steps)

pub put_struct-returns-in_err-inner-clause-front : goal.put_struct-returns-in_err-inner-clause-front
put_struct-returns-in_err-inner-clause-front t c = grind (arith, common_steps)

pub put_struct-put_padding-requires-clause-align : goal.put_struct-put_padding-requires-clause-align
put_struct-put_padding-requires-clause-align t c = grind (arith, common_steps)

pub put_struct-put_padding-requires-clause-place : goal.put_struct-put_padding-requires-clause-place
put_struct-put_padding-requires-clause-place t c = grind (arith, common_steps)

pub put_struct-returns-in_err-first-clause-writes : goal.put_struct-returns-in_err-first-clause-writes
put_struct-returns-in_err-first-clause-writes t c = grind (arith, common_steps)

pub put_struct-returns-in_err-first-clause-front : goal.put_struct-returns-in_err-first-clause-front
put_struct-returns-in_err-first-clause-front t c = grind (arith, common_steps)

pub put_struct-returns-clause-front : goal.put_struct-returns-clause-front
put_struct-returns-clause-front t c = grind (arith, common_steps)

pub put_values-at-requires : goal.put_values-at-requires
put_values-at-requires t c = grind (arith, common_steps)

pub put_values-loop-i-smaller : goal.put_values-loop-i-smaller
put_values-loop-i-smaller t c = grind (arith, common_steps)

pub put_values-returns-clause-front : goal.put_values-returns-clause-front
put_values-returns-clause-front t c = grind (arith, common_steps)

pub put_variant-returns-in_err-inner-clause-writes : goal.put_variant-returns-in_err-inner-clause-writes
put_variant-returns-in_err-inner-clause-writes t c = grind (arith, common_steps)

pub put_variant-returns-in_err-inner-clause-front : goal.put_variant-returns-in_err-inner-clause-front
put_variant-returns-in_err-inner-clause-front t c = grind (arith, common_steps)

pub put_variant-put_type-requires : goal.put_variant-put_type-requires
put_variant-put_type-requires t c = grind (arith, common_steps)

pub put_variant-returns-in_err-first-clause-writes : goal.put_variant-returns-in_err-first-clause-writes
put_variant-returns-in_err-first-clause-writes t c = grind (arith, common_steps)

pub put_variant-returns-in_err-first-clause-front : goal.put_variant-returns-in_err-first-clause-front
put_variant-returns-in_err-first-clause-front t c = grind (arith, common_steps)

pub put_variant-put-requires : goal.put_variant-put-requires
put_variant-put-requires t c = grind (arith, common_steps)

pub put_variant-returns-clause-front : goal.put_variant-returns-clause-front
put_variant-returns-clause-front t c = grind (arith, common_steps)
