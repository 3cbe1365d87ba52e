use Rattle.std.proofs.Common.{◌≡◌, ℕ, [], ◌∷◌, ◌++◌, refl, inl, inr, arith}
use Rattle.std.specs.Prelude.{codes}
use Rattle.std.specs.Fmt.{decimal}
use Rattle.atspi_script.specs.FaultText.{fault_line}
use Rattle.atspi_live_reader.specs.Following.{IsUntold}
use Rattle.atspi_live_examples.proofs.OfReader.Started.{first_is}
use Rattle.atspi_live_examples.proofs.reader.runs.faults_reported.Goals as goal

pub returns-clause-told : goal.returns-clause-told
returns-clause-told c fault = inl (refl, refl)

pub returns-clause-other : goal.returns-clause-other
returns-clause-other c fault (inl h) = omega (arith, h.0)
returns-clause-other c fault (inr h) = by h.0
  where
    by : IsUntold 13 → ⊥
    by (inl h) = omega (arith, h)
    by (inr h) = omega (arith, h)

pub returns-clause-untold : goal.returns-clause-untold
returns-clause-untold c fault (inl h) =
    let front : codes "ab" ≡ codes "ab" ++ fault_line 3 fault.place fault.reason = h.1 in cc
returns-clause-untold c fault (inr h) = by h.0
  where
    by : IsUntold 6 → ⊥
    by (inl h) = omega (arith, h)
    by (inr h) = omega (arith, h)

pub returns-clause-cut : goal.returns-clause-cut
returns-clause-cut c fault = inr (inr refl, (codes "bfault", codes " " ++ (decimal 3 ++ (codes " " ++ (decimal fault.place ++ (codes " " ++ (decimal fault.reason ++ 10 ∷ []))))), refl, refl))

pub returns-clause-cut_other : goal.returns-clause-cut_other
returns-clause-cut_other c fault (inl h) = omega (arith, h.0)
returns-clause-cut_other c fault (inr h) = by (first_is h.1.3)
  where
    by : ◌≡◌ {A = ℕ} 120 97 → ⊥
    by h = omega (arith, h)
