use Rattle.std.proofs.Common.{◌≡◌, ◌+◌, ◌<◌, ◌≤◌, ◌++◌, length, take, drop, ap, sym, ◌∙◌, subst, arith}
use Rattle.std.specs.Prelude.{option_to_list}
use Rattle.std.proofs.lemmas.List.{take_all}
use Rattle.atspi_match.specs.RuleIndex.{IsWithinLimit}
use Rattle.atspi_match.specs.Slots.{held_in}
use Rattle.atspi_match.proofs.IndexLemmas.{limit-front}
use Rattle.atspi_match.proofs.SlotLemmas.{held-more, held-front}
use Rattle.atspi_match.proofs.rule_index.copy_slots.Goals as goal

pub put_copy-requires : goal.put_copy-requires
put_copy-requires c =
    let slots = c.args.slots.now in
    let i = c.loop-slot.slot-index in
    let lt : i < length slots = omega arith in
    subst IsWithinLimit
    (held-more slots i c.slot-item.result lt c.slot-item.is ∙ ap (λ l. l ++ option_to_list c.slot-item.result) (sym c.loop-slot.invariant))
    (limit-front (held_in (take (i + 1) slots)) (held_in (drop (i + 1) slots)) (subst IsWithinLimit (held-front slots (i + 1)) c.requires))

pub loop-slot-preserved : goal.loop-slot-preserved
loop-slot-preserved c =
    let slots = c.args.slots.now in
    let i = c.loop-slot.slot-index in
    let lt : i < length slots = omega arith in
    c.in_ok-put_copy.ensures ∙ ap (λ l. l ++ option_to_list c.slot-item.result) c.loop-slot.invariant ∙ sym (held-more slots i c.slot-item.result lt c.slot-item.is)

pub returns : goal.returns
returns c =
    let past : length c.args.slots.now ≤ c.loop-slot.slot-index = omega arith in
    c.loop-slot.invariant ∙ ap held_in (take_all c.loop-slot.slot-index c.args.slots.now past)
