use Rattle.std.proofs.Common.{◌≡◌, ◌+◌, ◌<◌, ◌≤◌, ℕ, drop, length, map, arith, sym, ap, subst, ◌∙◌}
use Rattle.std.proofs.lemmas.List.{take_rest, length-append, length-drop}
use Rattle.atspi_match.specs.Grammar.{item_text}
use Rattle.atspi_match.specs.Conditions.{key_text}
use Rattle.atspi_match.specs.inner.Items.{ReadsItem, FirstItemFault}
use Rattle.atspi_match.proofs.ReadingLemmas.{nothing_read, all_read, read_more, read_to_end, fault_behind}
use Rattle.atspi_match.proofs.reading.read_conditions.Goals as goal

pub items-init : goal.items-init
items-init c = (rw c.new-conditions.ensures.items (nothing_read c.args.bytes.now), omega arith)

pub returns-in-Err-Bad-clause-bad : goal.returns-in-Err-Bad-clause-bad
returns-in-Err-Bad-clause-bad c =
    let told : FirstItemFault (map key_text c.items.conditions.items) (drop c.items.at c.args.bytes.now) c.in-Err-Bad.place c.in-Err-Bad.reason =
    simp (take_rest, c.deref.ensures.value) at (rw c.in-Err-Bad.field-0-is at c.in-Err-Bad.ensures.bad) in
    rw (c.in-Err-Bad.place-is, c.in-Err-Bad.reason-is)
    (fault_behind c.args.bytes.now c.items.at c.items.conditions.items c.in-Err-Bad.place c.in-Err-Bad.reason c.items.invariant.0 (omega (arith, c.items-test.true)) told)

pub returns-then-at-bytes-clause-ok : goal.returns-then-at-bytes-clause-ok
returns-then-at-bytes-clause-ok c =
    let read : ReadsItem (drop c.items.at c.args.bytes.now) c.items.conditions.items c.in-Ok.item = simp (take_rest, c.deref.ensures.value) at c.in-Ok.ensures.ok in
    rw c.in_ok-put.ensures.ok (all_read c.args.bytes.now c.items.at c.items.conditions.items c.in-Ok.item c.items.invariant.0 read c.if-at-bytes.true)

pub items-preserved : goal.items-preserved
items-preserved c =
    let read : ReadsItem (drop c.items.at c.args.bytes.now) c.items.conditions.items c.in-Ok.item = simp (take_rest, c.deref.ensures.value) at c.in-Ok.ensures.ok in
    let within : c.items.at + c.in-Ok.item.len < length c.args.bytes.now =
    omega (arith, read.len_is, ap length read.here.is, length-append (item_text read.item) (drop c.in-Ok.item.len (drop c.items.at c.args.bytes.now)), length-drop c.items.at c.args.bytes.now, c.if-at-bytes.false, c.items-test.true) in
    (rw c.in_ok-put.ensures.ok (read_more c.args.bytes.now c.items.at c.items.conditions.items c.in-Ok.item c.items.invariant.0 read within), omega (arith, within))
