use Rattle.std.proofs.Common.{◌≡◌, ℕ, ◌+◌, ◌≤◌, true, cond, [], ◌∷◌, sym, ap, ◌∙◌, arith}
use Rattle.std.proofs.lemmas.List.Sums.{sum_by-cons}
use Rattle.atspi_message_in_place.specs.View.{envelope_at}
use Rattle.atspi_match.specs.RuleIndex.{is_near, nearby}
use Rattle.atspi_match.specs.Slots.{Pair}
use Rattle.atspi_match.proofs.NearLemmas.{far}
use Rattle.atspi_match.proofs.SlotLemmas.{hears_not}
use Rattle.atspi_match.proofs.slots.asked.Goals as goal

pub returns-then-not-is_near-clause-heard : goal.returns-then-not-is_near-clause-heard
returns-then-not-is_near-clause-heard c =
    let e = envelope_at c.args.m.now in
    hears_not c.args.pair.now e c.args.names.now (far e c.args.names.now c.args.pair.now.1 (sym c.is_near.ensures ∙ c.if-not-is_near.true))

pub returns-clause-steps : goal.returns-clause-steps
returns-clause-steps c =
    let e = envelope_at c.args.m.now in
    let pair = c.args.pair.now in
    let near : is_near e pair.1 ≡ true = sym c.is_near.ensures ∙ c.if-not-is_near.false in
    let one : nearby e (pair ∷ []) ≡ 1 =
    sum_by-cons (λ (p : Pair). cond {A = ℕ} (is_near e p.1) 1 0) pair [] ∙ ap (λ b. cond {A = ℕ} b 1 0 + 0) near in (
      omega (arith, c.count_step.ensures.0),
      omega (arith, c.count_step.ensures.1),
    )
