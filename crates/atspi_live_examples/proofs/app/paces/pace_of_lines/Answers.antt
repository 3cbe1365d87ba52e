use Rattle.std.proofs.Common.{◌≡◌, ◌≤◌, ℕ, List, [], ◌∷◌, ◌++◌, map, refl, inl, inr, arith}
use Rattle.std.specs.Prelude.{◌⊎◌}
use Rattle.atspi_live_app.specs.Asking.{IsAsk}
use Rattle.atspi_live_app.specs.Pace.{AllTake, Starts, rounds_of, total}
use Rattle.atspi_live_app.specs.declared.asking.Ask.{Ask}
use Rattle.atspi_live_examples.proofs.OfApp.Rounds.{rounds_are}
use Rattle.atspi_live_examples.proofs.app.paces.pace_of_lines.Goals as goal

pub returns-clause-none_begun : goal.returns-clause-none_begun
returns-clause-none_begun c = λ app wait name. record {
  done = [];
  left = app ∷ wait ∷ name ∷ [];
  all = refl;
  take = tt;
  started = tt;
  due = inr (omega arith);
}

pub returns-clause-three_begun : goal.returns-clause-three_begun
returns-clause-three_begun c = λ app wait name one two. record {
  done = (app, 1) ∷ (wait, 2) ∷ [];
  left = name ∷ [];
  all = refl;
  take = (one, (two, tt));
  started = (omega arith, (omega arith, tt));
  due = inr (omega arith);
}

pub returns-clause-four_begun : goal.returns-clause-four_begun
returns-clause-four_begun c = λ app wait name one two three. record {
  done = (app, 1) ∷ (wait, 2) ∷ (name, 1) ∷ [];
  left = [];
  all = refl;
  take = (one, (two, (three, tt)));
  started = (omega arith, (omega arith, (omega arith, tt)));
  due = inl refl;
}

pub returns-clause-third_left : goal.returns-clause-third_left
returns-clause-third_left c = λ app wait name one two p. by app wait name one two p.done p.left p.all p.take p.started p.due
  where
    by : (app wait name : List ℕ) → ((what : Ask) → IsAsk what app → rounds_of what ≡ 1) → ((what : Ask) → IsAsk what wait → rounds_of what ≡ 2) → (ts : List (List ℕ × ℕ)) (left : List (List ℕ))
        → map (λ (t : List ℕ × ℕ). t.0) ts ++ left ≡ app ∷ wait ∷ name ∷ [] → AllTake ts → Starts 0 3 ts → (left ≡ []) ⊎ (3 ≤ total ts) → left ≡ name ∷ []
    by app wait name one two [] left e a s (inl none) = absurd cc
    by app wait name one two [] left e a s (inr few) = absurd (omega (arith, few))
    by app wait name one two (x ∷ []) left e a s (inl none) = absurd cc
    by app wait name one two (x ∷ []) left e a s (inr few) =
        let first : x.0 ≡ app = cc in
        absurd (omega (arith, few, rounds_are app 1 x one first a.0))
    by app wait name one two (x ∷ y ∷ []) left e a s due = cc
    by app wait name one two (x ∷ y ∷ z ∷ more) left e a s due =
        let first : x.0 ≡ app = cc in
        let second : y.0 ≡ wait = cc in
        absurd (omega (arith, s.1.1.0, rounds_are app 1 x one first a.0, rounds_are wait 2 y two second a.1.0))
