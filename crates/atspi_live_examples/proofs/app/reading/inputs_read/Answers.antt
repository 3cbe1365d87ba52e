use Rattle.std.proofs.Common.{◌≡◌, ◌<◌, ℕ, List, [], ◌∷◌, ◌++◌, length, ◌+◌, refl, ap, ◌∙◌, append-nil, length-append, arith}
use Rattle.atspi_live_examples.proofs.OfApp.Asked.{first_is}
use Rattle.atspi_live_examples.proofs.app.reading.inputs_read.Goals as goal

apart : ◌≡◌ {A = ℕ} 97 98 → ⊥
apart h = omega (arith, h)

pub returns-clause-whole : goal.returns-clause-whole
returns-clause-whole c = (refl, refl)

pub returns-clause-left : goal.returns-clause-left
returns-clause-left c h = by h.1
  where
    by : {b : ℕ} {bytes : List ℕ} → b ∷ bytes ≡ [] → ⊥
    by h = cc

pub returns-clause-other : goal.returns-clause-other
returns-clause-other c h = apart (first_is h.0)

pub returns-clause-failed : goal.returns-clause-failed
returns-clause-failed c = refl

pub returns-clause-failed_other : goal.returns-clause-failed_other
returns-clause-failed_other c h = apart (first_is h)

pub returns-clause-too_long : goal.returns-clause-too_long
returns-clause-too_long c text more left is some = (is, (more, some, refl))

pub returns-clause-too_short : goal.returns-clause-too_short
returns-clause-too_short c h = omega (arith, h.0)

pub returns-clause-no_more : goal.returns-clause-no_more
returns-clause-no_more c text h = by h.1.0 h.1.1 (ap (λ (w : List ℕ). length w) (h.1.2 ∙ append-nil (text ++ h.1.0)) ∙ length-append text h.1.0)
  where
    by : (more : List ℕ) → 0 < length more → length text ≡ length text + length more → ⊥
    by more some h = omega (arith, some, h)
