use Rattle.std.proofs.Common.{refl, sym, ap, subst, ◌∙◌, ◌≡◌}
use Rattle.std.specs.Prelude.{false, true}
use Rattle.atspi_match.specs.RuleIndex.{GoesOut, IsNowhere, without_first}
use Rattle.atspi_match.specs.Slots.{Slots, held_in, IsFirstSlot}
use Rattle.atspi_match.proofs.IndexLemmas.{goes_out, contains-first}
use Rattle.atspi_match.proofs.SlotLemmas.{slot_below}
use Rattle.atspi_match.proofs.IndexedLemmas.{indexed-out}
use Rattle.atspi_match.proofs.rule_index.RuleIndex.remove.Goals as goal

not_so : false ≡ true → ⊥
not_so e = cc

pub empty-requires-clause-place : goal.empty-requires-clause-place
empty-requires-clause-place c =
    let at = subst (λ (l : Slots). IsFirstSlot l c.args.conn c.args.rule.now c.in-Some.place) c.deref.ensures.value c.in-Some.ensures in
    slot_below c.self.inside.slots.items c.in-Some.place (c.args.conn, c.args.rule.now) at.is

pub empty-requires-clause-noted : goal.empty-requires-clause-noted
empty-requires-clause-noted c = c.self.invariant.noted

pub invariant_of-self : goal.invariant_of-self
invariant_of-self c =
    let at = subst (λ (l : Slots). IsFirstSlot l c.args.conn c.args.rule.now c.in-Some.place) c.deref.ensures.value c.in-Some.ensures in
    indexed-out c.self.inside.slots.items c.empty.new.slots.items c.self.inside.groups c.empty.new.groups c.self.inside.counts c.fall.new.self c.args.conn c.args.rule.now
    c.self.invariant
    (goes_out (held_in c.self.inside.slots.items) (held_in c.empty.new.slots.items) c.args.conn c.args.rule.now at.index at.first (ap held_in c.empty.ensures.slots ∙ at.emptied))
    c.empty.ensures.noted c.fall.ensures

pub returns-in-Some-clause-pairs : goal.returns-in-Some-clause-pairs
returns-in-Some-clause-pairs c =
    let at = subst (λ (l : Slots). IsFirstSlot l c.args.conn c.args.rule.now c.in-Some.place) c.deref.ensures.value c.in-Some.ensures in
    ap held_in c.empty.ensures.slots ∙ at.emptied ∙ sym at.first.rest ∙ ap (λ l. without_first l c.args.conn c.args.rule.now) c.self.view_is

pub returns-in-Some-clause-one : goal.returns-in-Some-clause-one
returns-in-Some-clause-one c =
    let at = subst (λ (l : Slots). IsFirstSlot l c.args.conn c.args.rule.now c.in-Some.place) c.deref.ensures.value c.in-Some.ensures in
    subst (λ l. GoesOut l (held_in c.empty.new.slots.items) (c.args.conn, c.args.rule.now)) c.self.view_is
    (goes_out (held_in c.self.inside.slots.items) (held_in c.empty.new.slots.items) c.args.conn c.args.rule.now at.index at.first (ap held_in c.empty.ensures.slots ∙ at.emptied))

pub returns-in-Some-clause-none : goal.returns-in-Some-clause-none
returns-in-Some-clause-none c =
    let at = subst (λ (l : Slots). IsFirstSlot l c.args.conn c.args.rule.now c.in-Some.place) c.deref.ensures.value c.in-Some.ensures in (
      λ _. rw (← c.self.view_is) (contains-first (held_in c.self.inside.slots.items) c.args.conn c.args.rule.now at.index at.first),
      λ _. refl,
    )

pub returns-in-None-clause-pairs : goal.returns-in-None-clause-pairs
returns-in-None-clause-pairs c =
    let at = subst (λ (l : Slots). IsNowhere (held_in l) c.args.conn c.args.rule.now) c.deref.ensures.value c.in-None.ensures in
    sym c.self.view_is ∙ sym at.rest ∙ ap (λ l. without_first l c.args.conn c.args.rule.now) c.self.view_is

pub returns-in-None-clause-none : goal.returns-in-None-clause-none
returns-in-None-clause-none c =
    let at = subst (λ (l : Slots). IsNowhere (held_in l) c.args.conn c.args.rule.now) c.deref.ensures.value c.in-None.ensures in (
      λ t. absurd (not_so t),
      λ h. absurd (at.none (rw c.self.view_is h)),
    )
