use Rattle.std.proofs.Common.{◌≡◌, ◌<◌, ℕ, refl, arith, lit<}
use Rattle.atspi_trace_examples.proofs.steps.new_numbers.Goals as goal

no_lower : {n : ℕ} → n < n → ⊥
no_lower h = omega (arith, h)

apart : ◌≡◌ {A = ℕ} 0 1 → ⊥
apart h = omega (arith, h)

pub returns-clause-first : goal.returns-clause-first
returns-clause-first c = (lit< tt, tt)

pub returns-clause-of_the_root : goal.returns-clause-of_the_root
returns-clause-of_the_root c h = no_lower h.0

pub returns-clause-second : goal.returns-clause-second
returns-clause-second c = (lit< tt, ((λ same. lit< tt), tt))

pub returns-clause-again : goal.returns-clause-again
returns-clause-again c h = no_lower (h.1.0 refl)

pub returns-clause-behind_its_removal : goal.returns-clause-behind_its_removal
returns-clause-behind_its_removal c h = no_lower (h.1.0 refl)

pub returns-clause-of_another : goal.returns-clause-of_another
returns-clause-of_another c = (lit< tt, ((λ same. absurd (apart same)), tt))

pub returns-clause-anything : goal.returns-clause-anything
returns-clause-anything c = tt
