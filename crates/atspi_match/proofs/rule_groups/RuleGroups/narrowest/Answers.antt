use Rattle.std.proofs.Common.{◌≡◌, ◌+◌, ◌<◌, ◌≤◌, length, take, sym, ap, ◌∙◌, subst, arith}
use Rattle.std.proofs.lemmas.List.{take_all}
use Rattle.atspi_match.proofs.NarrowLemmas.{IsBest, best-start, best-as, best-other, best-next, best-kept, best-end, seen-more}
use Rattle.atspi_match.proofs.rule_groups.RuleGroups.narrowest.Goals as goal
use Rattle.atspi_match.proofs.rule_groups.RuleGroups.narrowest.Goals.{in-Some+then-askers-fewest, in-Some+else-askers-fewest, in_default}

pub loop-condition-init : goal.loop-condition-init
loop-condition-init c = best-start c.args.self.now.sets

pub loop-condition-preserved : goal.loop-condition-preserved
loop-condition-preserved c =
    let sets = c.args.self.now.sets in
    let xs = c.args.conditions.now in
    let i = c.loop-condition.condition-index in
    let item = c.condition-item.result in
    let lt : i < length xs = omega arith in
    let more = seen-more xs i item lt c.condition-item.is in
    elim c.match-asked.branch [
      | in-Some+then-askers-fewest w ↦
          best-as sets _ _ _ _ _ _ more w.narrowest-is (w.fewest-is ∙ w.askers-askers.ensures)
          (best-next sets (take i xs) item c.loop-condition.narrowest c.loop-condition.fewest w.in-Some.number (sym c.asked.ensures ∙ w.in-Some.is)
          (subst (λ k. k ≤ c.loop-condition.fewest) w.askers-askers.ensures w.if-askers-fewest.true) c.loop-condition.invariant)
      | in-Some+else-askers-fewest w ↦
          best-as sets _ _ _ _ _ _ more w.narrowest-is w.fewest-is
          (best-kept sets (take i xs) item c.loop-condition.narrowest c.loop-condition.fewest w.in-Some.number (sym c.asked.ensures ∙ w.in-Some.is)
          (subst (λ k. c.loop-condition.fewest < k) w.askers-askers.ensures w.if-askers-fewest.false)
          (subst (λ k. k < 18446744073709551616) w.askers-askers.ensures w.askers-askers.type_inv) c.loop-condition.invariant)
      | in_default w ↦
          best-as sets _ _ _ _ _ _ more w.narrowest-is w.fewest-is
          (best-other sets (take i xs) item c.loop-condition.narrowest c.loop-condition.fewest (sym c.asked.ensures ∙ w.in_default.is) c.loop-condition.invariant)
    ]

pub returns : goal.returns
returns c =
    let past : length c.args.conditions.now ≤ c.loop-condition.condition-index = omega arith in
    best-end c.args.self.now.sets c.args.conditions.now c.loop-condition.narrowest c.loop-condition.fewest
    (subst (λ l. IsBest c.args.self.now.sets l c.loop-condition.narrowest c.loop-condition.fewest) (take_all c.loop-condition.condition-index c.args.conditions.now past) c.loop-condition.invariant)
