use Rattle.std.proofs.Common.{◌≡◌, ◌<◌, ◌⊎◌, ℕ, List, ◌∷◌, refl, inl, inr, arith, lit<}
use Rattle.std.specs.Prelude.{codes}
use Rattle.atspi_live_examples.proofs.OfApp.Asked.{first_is}
use Rattle.atspi_live_examples.proofs.app.runs.runs_reported.Goals as goal

apart : ◌≡◌ {A = ℕ} 98 97 → ⊥
apart h = omega (arith, h)

tail_is : {x y : ℕ} {xs ys : List ℕ} → x ∷ xs ≡ y ∷ ys → xs ≡ ys
tail_is h = cc

differ : ◌≡◌ {A = ℕ} 99 98 → ⊥
differ h = omega (arith, h)

pub returns-clause-refusal : goal.returns-clause-refusal
returns-clause-refusal c = inl (refl, refl)

pub returns-clause-refusal_cut : goal.returns-clause-refusal_cut
returns-clause-refusal_cut c = inr (inl refl, (codes "b", codes "c", refl, refl))

pub returns-clause-refusal_wanting : goal.returns-clause-refusal_wanting
returns-clause-refusal_wanting c = inr (inr refl, (codes "b", codes "c", refl, refl))

untold : {m : ℕ} → (m ≡ 4) ⊎ (m ≡ 5) → m < 4 → ⊥
untold (inl h) few = omega (arith, h, few)
untold (inr h) few = omega (arith, h, few)

pub returns-clause-other_status : goal.returns-clause-other_status
returns-clause-other_status c (inl h) = omega (arith, h.0)
returns-clause-other_status c (inr h) = untold h.0 (lit< tt)

pub returns-clause-other_line : goal.returns-clause-other_line
returns-clause-other_line c (inl h) = differ (first_is (tail_is h.1))
returns-clause-other_line c (inr h) = untold h.0 (lit< tt)

pub returns-clause-other_front : goal.returns-clause-other_front
returns-clause-other_front c (inl h) = omega (arith, h.0)
returns-clause-other_front c (inr h) = apart (first_is h.1.3)
