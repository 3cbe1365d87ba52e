use Rattle.std.proofs.Common.{arith, map, take}
use Rattle.atspi_types.specs.DataView.{all_data, all_pairs, pair_of}
use Rattle.atspi_types.specs.Borrowed.{ref_data}
use Rattle.atspi_script.specs.Spaced.{gap, spaced}
use Rattle.atspi_script.specs.ValueText.{value_text}
use Rattle.atspi_trace_texts.proofs.OfMessages.Sizes.{entry_below, value_below}
use Rattle.atspi_trace_texts.proofs.OfMessages.TextLemmas.{entries_written, entry_written, front_behind_gap, length_pairs, pair_at, pair_text, value_written, values_written}
use Rattle.atspi_trace_texts.proofs.messages.values.+put.Goals as goal

pub put_values-put-requires : goal.put_values-put-requires
put_values-put-requires t c =
    (omega (arith, value_below (all_data c.args.values.now) c.loop-i.i (ref_data c.at.result) c.at.ensures), tt)

pub put_values-returns-in_err-put-clause-front : goal.put_values-returns-in_err-put-clause-front
put_values-returns-in_err-put-clause-front t c =
    let front = spaced (take c.loop-i.i (map value_text (all_data c.args.values.now))) in
    front_behind_gap c.args.out.now front c.loop-i.out (gap c.loop-i.i) c.put_gap.new.out c.put.new.out c.loop-i.invariant c.in_ok-put_gap.ensures.ok c.put.ensures.front

pub put_values-loop-i-preserved : goal.put_values-loop-i-preserved
put_values-loop-i-preserved t c =
    value_written (all_data c.args.values.now) c.loop-i.i (ref_data c.at.result) c.args.out.now c.loop-i.out c.put_gap.new.out c.put.new.out c.at.ensures c.loop-i.invariant c.in_ok-put_gap.ensures.ok c.in_ok-put.ensures.ok

pub put_values-returns-clause-ok : goal.put_values-returns-clause-ok
put_values-returns-clause-ok t c =
    values_written (all_data c.args.values.now) c.loop-i.i c.args.out.now c.loop-i.out (omega (arith, c.len-i-end.ensures)) c.loop-i.invariant

pub put_pairs-put_entry-requires : goal.put_pairs-put_entry-requires
put_pairs-put_entry-requires t c =
    let all = all_pairs c.args.pairs.now in
    let there = pair_at c.as_slice-items.result.now all c.loop-i.i c.index-items-i.result c.as_slice-items.ensures (omega arith) c.index-items-i.is in
    (omega (arith, entry_below all c.loop-i.i (pair_of c.index-items-i.result) there), tt)

pub put_pairs-returns-in_err-put_entry-clause-front : goal.put_pairs-returns-in_err-put_entry-clause-front
put_pairs-returns-in_err-put_entry-clause-front t c =
    let front = spaced (take c.loop-i.i (map pair_text (all_pairs c.args.pairs.now))) in
    front_behind_gap c.args.out.now front c.loop-i.out (gap c.loop-i.i) c.put_gap.new.out c.put_entry.new.out c.loop-i.invariant c.in_ok-put_gap.ensures.ok c.put_entry.ensures.front

pub put_pairs-loop-i-preserved : goal.put_pairs-loop-i-preserved
put_pairs-loop-i-preserved t c =
    let all = all_pairs c.args.pairs.now in
    let there = pair_at c.as_slice-items.result.now all c.loop-i.i c.index-items-i.result c.as_slice-items.ensures (omega arith) c.index-items-i.is in
    entry_written all c.loop-i.i (pair_of c.index-items-i.result) c.args.out.now c.loop-i.out c.put_gap.new.out c.put_entry.new.out there c.loop-i.invariant c.in_ok-put_gap.ensures.ok c.in_ok-put_entry.ensures.ok

pub put_pairs-returns-clause-ok : goal.put_pairs-returns-clause-ok
put_pairs-returns-clause-ok t c =
    entries_written (all_pairs c.args.pairs.now) c.loop-i.i c.args.out.now c.loop-i.out (omega (arith, length_pairs c.as_slice-items.result.now (all_pairs c.args.pairs.now) c.as_slice-items.ensures)) c.loop-i.invariant
