use Rattle.std.proofs.Common.{◌≡◌, ℕ, List, [], ◌∷◌, refl, subst, sym, arith, lit<}
use Rattle.atspi_live_app.specs.Asking.{IsAsk}
use Rattle.atspi_live_app.specs.declared.asking.Ask.TheVariants as asks
use Rattle.atspi_live_examples.proofs.OfApp.Asked.{empty, first_is}
use Rattle.atspi_live_examples.proofs.app.reading.lines_passed.Goals as goal

-- lists of lines
none_left : {line : List ℕ} {lines : List (List ℕ)} → line ∷ lines ≡ [] → ⊥
none_left h = cc

first_line : {line other : List ℕ} {lines others : List (List ℕ)} → line ∷ lines ≡ other ∷ others → line ≡ other
first_line h = cc

other_lines : {line other : List ℕ} {lines others : List (List ℕ)} → line ∷ lines ≡ other ∷ others → lines ≡ others
other_lines h = cc

no_wait : {line : List ℕ} → [] ≡ line → IsAsk (asks.Wait 2) line → ⊥
no_wait {line} is h = by (subst (λ (l : List ℕ). IsAsk (asks.Wait 2) l) (sym is) h)
  where
    none : {b : ℕ} {bytes : List ℕ} → [] ≡ b ∷ bytes → ⊥
    none h = cc

    by : IsAsk (asks.Wait 2) [] → ⊥
    by h = none h.1

pub returns-clause-left : goal.returns-clause-left
returns-clause-left c = refl

pub returns-clause-passed : goal.returns-clause-passed
returns-clause-passed c = record { line = []; first = refl; asks = empty; counted = λ few. refl }

pub returns-clause-not_counted : goal.returns-clause-not_counted
returns-clause-not_counted c p = omega (arith, p.counted (lit< tt))

pub returns-clause-last_count : goal.returns-clause-last_count
returns-clause-last_count c p = omega (arith, p.counted (lit< tt))

pub returns-clause-past_counts : goal.returns-clause-past_counts
returns-clause-past_counts c = record { line = []; first = refl; asks = empty; counted = λ few. absurd (omega (arith, few)) }

pub returns-clause-other_place : goal.returns-clause-other_place
returns-clause-other_place c p = none_left (other_lines p.first)

pub returns-clause-other_line : goal.returns-clause-other_line
returns-clause-other_line c p = no_wait (first_line p.first) p.asks

pub returns-clause-next : goal.returns-clause-next
returns-clause-next c = (refl, record { line = []; first = refl; asks = empty; counted = λ few. refl })

pub returns-clause-next_stays : goal.returns-clause-next_stays
returns-clause-next_stays c h = omega (arith, h.1.counted (lit< tt))

pub returns-clause-last : goal.returns-clause-last
returns-clause-last c = (refl, (refl, refl, refl))

pub returns-clause-last_moved : goal.returns-clause-last_moved
returns-clause-last_moved c h = omega (arith, h.1.1)

pub returns-clause-last_counted : goal.returns-clause-last_counted
returns-clause-last_counted c h = omega (arith, h.1.2)

pub returns-clause-last_other : goal.returns-clause-last_other
returns-clause-last_other c h = by (first_is h.0)
  where
    by : ◌≡◌ {A = ℕ} 121 120 → ⊥
    by h = omega (arith, h)

pub returns-clause-one_left : goal.returns-clause-one_left
returns-clause-one_left c h = none_left h.1.0
