use Rattle.std.proofs.Common.{ℕ, ◌+◌, ◌<◌, ◌≤◌, length, take, get_or, sym, ap, ◌∙◌, subst, ⊎_elim, arith}
use Rattle.std.specs.List.{Contains}
use Rattle.std.proofs.lemmas.List.{take_more, take_all}
use Rattle.std.proofs.lemmas.List.Elements.{Contains-push_cases}
use Rattle.atspi_message_in_place.specs.View.{envelope_at}
use Rattle.atspi_match.specs.Noted.{notes}
use Rattle.atspi_match.proofs.GroupLemmas.{group_in}
use Rattle.atspi_match.proofs.rule_groups.RuleGroups.places.Goals as goal

pub loop-number-init : goal.loop-number-init
loop-number-init c g q noted h = absurd (omega (arith, h.1))

pub loop-number-preserved : goal.loop-number-preserved
loop-number-preserved c g q noted h =
    let xs = c.deref-number-items.result.now in
    let i = c.loop-number.number-index in
    let lt : i < length xs = omega arith in
    ⊎_elim (λ was. c.in_ok-add_group.ensures.stays q (c.loop-number.invariant g q noted was))
    (λ is. c.in_ok-add_group.ensures.all q (ap (λ k. notes c.args.self.now.sets k q) is ∙ noted))
    (Contains-push_cases (take i xs) (get_or xs i 0) g (subst (λ l. Contains l g) (take_more xs i 0 lt) h))

pub returns : goal.returns
returns c rule owners q noted m =
    let xs = c.deref-number-items.result.now in
    let past : length xs ≤ c.loop-number.number-index = omega arith in
    c.loop-number.invariant noted.group q noted.noted
    (subst (λ l. Contains l noted.group) (sym (take_all c.loop-number.number-index xs past ∙ c.deref-number-items.ensures.value ∙ c.in_ok-groups.ensures))
    (group_in (envelope_at c.args.m.now) owners rule noted.group noted.own m))
