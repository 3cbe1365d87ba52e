use Rattle.std.proofs.Common.{◌≡◌, ◌<◌, ℕ, List, [], ◌∷◌, ◌++◌, refl, inl, inr, arith, lit<}
use Rattle.atspi_run_replay.specs.Complete.{AllApply, EndsFull}
use Rattle.atspi_run_examples.proofs.limits.past_the_limit.Goals as goal

-- where no line stands, all apply
none_stand : AllApply []
none_stand line rest told why upto = λ h. by upto.done upto.front
  where
    by : (done : List (List ℕ)) → [] ≡ done ++ line ∷ rest → ⊥
    by [] e = absurd cc
    by (l ∷ ls) e = absurd cc

not_full : (n : ℕ) → n < 5 → EndsFull n → ⊥
not_full n few (inl e) = omega (arith, few, e)
not_full n few (inr (inl e)) = omega (arith, few, e)
not_full n few (inr (inr (inl e))) = omega (arith, few, e)
not_full n few (inr (inr (inr e))) = omega (arith, few, e)

pub returns-clause-eight : goal.returns-clause-eight
returns-clause-eight c = λ past apply. inl refl

pub returns-clause-not_done : goal.returns-clause-not_done
returns-clause-not_done c = λ h. not_full 0 (lit< tt) (h (lit< tt) none_stand)

pub returns-clause-not_refused : goal.returns-clause-not_refused
returns-clause-not_refused c = λ h. not_full 1 (lit< tt) (h (lit< tt) none_stand)

pub returns-clause-inside : goal.returns-clause-inside
returns-clause-inside c = λ past apply. absurd (omega (arith, past))
