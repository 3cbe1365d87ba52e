use Rattle.std.proofs.Common.{◌<◌, ◌≤◌, length, sym, ◌∙◌, arith}
use Rattle.std.proofs.lemmas.Bool.Decides.{not_from_Decides}
use Rattle.std.proofs.lemmas.List.{take_all, drop_all}
use Rattle.atspi_match.proofs.SlotLemmas.{past-start, past-next, past-found, past-end}
use Rattle.atspi_match.proofs.slots.first_of.Goals as goal

pub loop-place-init : goal.loop-place-init
loop-place-init c = past-start c.args.slots.now c.args.conn c.args.rule.now

pub returns-then-is_rule_at : goal.returns-then-is_rule_at
returns-then-is_rule_at c =
    let lt : c.loop-place.place < length c.args.slots.now = omega arith in
    past-found c.args.slots.now c.args.conn c.args.rule.now c.loop-place.place lt (sym c.is_rule_at.ensures.tested ∙ c.if-is_rule_at.true)
    (c.is_rule_at.ensures.same.0 c.if-is_rule_at.true) c.loop-place.invariant

pub loop-place-preserved : goal.loop-place-preserved
loop-place-preserved c =
    let lt : c.loop-place.place < length c.args.slots.now = omega arith in
    past-next c.args.slots.now c.args.conn c.args.rule.now c.loop-place.place lt (sym c.is_rule_at.ensures.tested ∙ c.if-is_rule_at.false)
    (not_from_Decides _ c.is_rule_at.ensures.same c.if-is_rule_at.false) c.loop-place.invariant

pub returns : goal.returns
returns c =
    let past : length c.args.slots.now ≤ c.loop-place.place = omega arith in
    past-end c.args.slots.now c.args.conn c.args.rule.now c.loop-place.place (take_all c.loop-place.place c.args.slots.now past)
    (drop_all c.loop-place.place c.args.slots.now past) c.loop-place.invariant
