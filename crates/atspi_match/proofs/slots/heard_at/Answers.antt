use Rattle.std.proofs.Common.{◌+◌, ◌≤◌, ◌≡◌, [], ◌∷◌, Option, None, Some, sym, ap, ◌∙◌, subst, arith}
use Rattle.std.specs.Prelude.{option_to_list}
use Rattle.std.specs.Option.{option_copied}
use Rattle.atspi_message_in_place.specs.View.{envelope_at}
use Rattle.atspi_match.specs.RuleIndex.{nearby}
use Rattle.atspi_match.specs.Slots.{Hears, Pair, slot_at}
use Rattle.atspi_match.proofs.SlotLemmas.{hears_nobody}
use Rattle.atspi_match.proofs.slots.heard_at.Goals as goal

pub returns-in-Some-clause-heard : goal.returns-in-Some-clause-heard
returns-in-Some-clause-heard c =
    subst (λ o. Hears c.asked.result (option_to_list o) (envelope_at c.args.m.now) c.args.names.now) (ap option_copied (sym c.in-Some.is) ∙ c.rule_at.ensures) c.asked.ensures.heard

pub returns-in-Some-clause-steps : goal.returns-in-Some-clause-steps
returns-in-Some-clause-steps c =
    let e = envelope_at c.args.m.now in
    let at : Some c.in-Some.pair.now ≡ slot_at c.args.slots.now c.args.place = ap option_copied (sym c.in-Some.is) ∙ c.rule_at.ensures in
    let same : nearby e (c.in-Some.pair.now ∷ []) ≡ nearby e (option_to_list (slot_at c.args.slots.now c.args.place)) =
    ap (λ (o : Option Pair). nearby e (option_to_list o)) at in (
      omega (arith, c.asked.ensures.steps.0),
      omega (arith, c.asked.ensures.steps.1),
    )

pub returns-in-None-clause-heard : goal.returns-in-None-clause-heard
returns-in-None-clause-heard c =
    subst (λ o. Hears None (option_to_list o) (envelope_at c.args.m.now) c.args.names.now) (ap option_copied (sym c.in-None.is) ∙ c.rule_at.ensures)
    (hears_nobody (envelope_at c.args.m.now) c.args.names.now)
