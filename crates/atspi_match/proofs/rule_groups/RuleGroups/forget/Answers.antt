use Rattle.std.proofs.Common.{◌≡◌, ◌+◌, ◌<◌, ◌≤◌, [], ◌∷◌, ◌++◌, length, take, sym, ap, ◌∙◌, subst, arith}
use Rattle.std.proofs.lemmas.List.{take_all}
use Rattle.atspi_match.specs.declared.rule_groups.RuleGroups.{RuleGroups}
use Rattle.atspi_match.proofs.NarrowLemmas.{seen-more}
use Rattle.atspi_match.proofs.NotedLemmas.{IsForgotten, forgotten-start, forgotten-other, forgotten-more, forgotten-own, noted_same}
use Rattle.atspi_match.proofs.rule_groups.RuleGroups.forget.Goals as goal
use Rattle.atspi_match.proofs.rule_groups.RuleGroups.forget.Goals.{in-Some, in_default}

pub loop-condition-init : goal.loop-condition-init
loop-condition-init c = forgotten-start c.args.self.now.sets c.take_out.new.self.sets c.args.place c.take_out.ensures

pub loop-condition-preserved : goal.loop-condition-preserved
loop-condition-preserved c =
    let first = c.args.self.now.sets in
    let xs = c.conditions-condition-items.result.now in
    let i = c.loop-condition.condition-index in
    let item = c.condition-item.result in
    let lt : i < length xs = omega arith in
    let more = seen-more xs i item lt c.condition-item.is in
    subst (λ l. IsForgotten first c.match-asked.self.sets l c.args.place) (sym more)
    (elim c.match-asked.branch [
      | in-Some w ↦
          subst (λ (g : RuleGroups). IsForgotten first g.sets (take i xs ++ item ∷ []) c.args.place) (sym w.self-is)
          (forgotten-more first c.loop-condition.self.sets w.take_out-in-Some.new.self.sets (take i xs) item w.in-Some.number c.args.place (sym c.asked.ensures ∙ w.in-Some.is)
          w.take_out-in-Some.ensures c.loop-condition.invariant)
      | in_default w ↦
          subst (λ (g : RuleGroups). IsForgotten first g.sets (take i xs ++ item ∷ []) c.args.place) (sym w.self-is)
          (forgotten-other first c.loop-condition.self.sets (take i xs) item c.args.place (sym c.asked.ensures ∙ w.in_default.is) c.loop-condition.invariant)
    ])

pub returns-clause-gone : goal.returns-clause-gone
returns-clause-gone c number own =
    let xs = c.conditions-condition-items.result.now in
    let past : length xs ≤ c.loop-condition.condition-index = omega arith in
    forgotten-own c.args.self.now.sets c.loop-condition.self.sets c.args.rule.now c.args.place number
    (subst (λ l. IsForgotten c.args.self.now.sets c.loop-condition.self.sets l c.args.place)
    (take_all c.loop-condition.condition-index xs past ∙ c.conditions-condition-items.ensures.conditions) c.loop-condition.invariant) own

pub returns-clause-others : goal.returns-clause-others
returns-clause-others c other q ne was = noted_same c.args.self.now c.loop-condition.self other q (λ g. c.loop-condition.invariant.others g q ne) was
