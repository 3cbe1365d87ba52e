use Rattle.std.proofs.Common.{◌≡◌, ◌≤◌, ℕ, List, [], ◌∷◌, ◌++◌, map, refl, inl, inr, arith}
use Rattle.std.specs.Prelude.{◌⊎◌}
use Rattle.atspi_live_app.specs.Asking.{IsAsk}
use Rattle.atspi_live_app.specs.Pace.{AllTake, Starts, rounds_of, total}
use Rattle.atspi_live_app.specs.declared.asking.Ask.{Ask}
use Rattle.atspi_live_examples.proofs.OfApp.Rounds.{rounds_are}
use Rattle.atspi_live_examples.proofs.app.paces.stops_of_lines.Goals as goal

pub returns-clause-behind_three : goal.returns-clause-behind_three
returns-clause-behind_three c = λ app wait bad one two. record {
  done = (app, 1) ∷ (wait, 2) ∷ [];
  left = bad ∷ [];
  all = refl;
  take = (one, (two, tt));
  started = (omega arith, (omega arith, tt));
  due = inl (omega arith);
}

pub returns-clause-not_behind_two : goal.returns-clause-not_behind_two
returns-clause-not_behind_two c = λ app wait bad one two s. by app wait bad one two s.done s.left s.all s.take s.started s.due
  where
    by : (app wait bad : List ℕ) → ((what : Ask) → IsAsk what app → rounds_of what ≡ 1) → ((what : Ask) → IsAsk what wait → rounds_of what ≡ 2) → (ts : List (List ℕ × ℕ)) (left : List (List ℕ))
        → map (λ (t : List ℕ × ℕ). t.0) ts ++ left ≡ app ∷ wait ∷ bad ∷ [] → AllTake ts → Starts 0 2 ts → (2 ≡ total ts) ⊎ ((left ≡ []) × (total ts ≤ 2)) → ⊥
    by app wait bad one two [] left e a s (inl h) = omega (arith, h)
    by app wait bad one two [] left e a s (inr h) = let none : left ≡ [] = h.0 in cc
    by app wait bad one two (x ∷ []) left e a s (inl h) =
        let first : x.0 ≡ app = cc in
        omega (arith, h, rounds_are app 1 x one first a.0)
    by app wait bad one two (x ∷ []) left e a s (inr h) = let none : left ≡ [] = h.0 in cc
    by app wait bad one two (x ∷ y ∷ []) left e a s (inl h) =
        let first : x.0 ≡ app = cc in
        let second : y.0 ≡ wait = cc in
        omega (arith, h, rounds_are app 1 x one first a.0, rounds_are wait 2 y two second a.1.0)
    by app wait bad one two (x ∷ y ∷ []) left e a s (inr h) = let none : left ≡ [] = h.0 in cc
    by app wait bad one two (x ∷ y ∷ z ∷ more) left e a s h =
        let first : x.0 ≡ app = cc in
        let second : y.0 ≡ wait = cc in
        omega (arith, s.1.1.0, rounds_are app 1 x one first a.0, rounds_are wait 2 y two second a.1.0)

pub returns-clause-first : goal.returns-clause-first
returns-clause-first c = λ bad. record { done = []; left = bad ∷ []; all = refl; take = tt; started = tt; due = inl refl }

pub returns-clause-none_asks : goal.returns-clause-none_asks
returns-clause-none_asks c = λ blank one. record { done = (blank, 1) ∷ []; left = []; all = refl; take = (one, tt); started = (omega arith, tt); due = inl (omega arith) }
