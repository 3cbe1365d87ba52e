use Rattle.std.proofs.Common.{◌≡◌, [], ◌∷◌, refl}
use Rattle.atspi_run_examples.proofs.wired.bytes.Goals as goal

pub returns-clause-wired : goal.returns-clause-wired
returns-clause-wired c = λ b. (refl, (refl, tt))

pub returns-clause-unwired : goal.returns-clause-unwired
returns-clause-unwired c = λ b h. let clash : 0 ∷ [] ≡ [] = h.0 in absurd cc
