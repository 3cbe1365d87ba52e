use Rattle.std.proofs.Common.{◌≡◌, ℕ, List, [], ◌∷◌, ◌++◌, Some, refl, inl, inr, arith}
use Rattle.std.specs.Prelude.{codes}
use Rattle.std.specs.Fmt.{decimal, digits}
use Rattle.atspi_live_conversation.specs.declared.ending.Ending.TheVariants as endings
use Rattle.atspi_live_conversation.specs.Reports.{Reports}
use Rattle.atspi_live_examples.proofs.registry.statuses.reports_of_faults.Goals as goal

pub returns-clause-line : goal.returns-clause-line
unfolding digits
returns-clause-line c = inl (refl, refl)

pub returns-clause-sink_failed : goal.returns-clause-sink_failed
unfolding digits
returns-clause-sink_failed c = inr (inl refl, (codes "fault 144", codes " 3 36" ++ (10 ∷ []), refl, refl))

pub returns-clause-quiet : goal.returns-clause-quiet
returns-clause-quiet c = by
  where
    none : (rest : List ℕ) → [] ≡ [] ++ (codes "fault " ++ rest) → ⊥
    none rest h = cc

    by : Reports (endings.Malformed 144 (record { place = 3; reason = 36 })) 6 (Some []) (Some []) → ⊥
    by (inl all) = none (decimal 144 ++ (codes " " ++ (decimal 3 ++ (codes " " ++ (decimal 36 ++ 10 ∷ []))))) all.1
    by (inr (inl e, part)) = omega (arith, e)
    by (inr (inr e, part)) = omega (arith, e)
