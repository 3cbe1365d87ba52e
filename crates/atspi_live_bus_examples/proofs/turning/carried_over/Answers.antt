use Rattle.std.proofs.Common.{[], ◌∷◌, refl, sym}
use Rattle.atspi_live_bus_examples.proofs.Facts.{some_byte}
use Rattle.atspi_live_bus_examples.proofs.Seated.{only_three}
use Rattle.atspi_live_bus_examples.proofs.turning.carried_over.Goals as goal

pub returns-clause-read : goal.returns-clause-read
returns-clause-read c = ((λ j n. (only_three j (7 ∷ []) n, refl)), λ h. (refl, refl))

pub returns-clause-written : goal.returns-clause-written
returns-clause-written c = ((λ j n. (refl, only_three j (7 ∷ []) n)), λ h. (refl, refl))

pub returns-clause-not_known : goal.returns-clause-not_known
returns-clause-not_known c = ((λ j n. (only_three j (7 ∷ []) n, refl)), λ h. some_byte 7 [] (sym h))

pub returns-clause-none_taken : goal.returns-clause-none_taken
returns-clause-none_taken c h = some_byte 7 [] (h.1 refl)

pub returns-clause-none_given : goal.returns-clause-none_given
returns-clause-none_given c h = some_byte 7 [] (h.1 refl)
