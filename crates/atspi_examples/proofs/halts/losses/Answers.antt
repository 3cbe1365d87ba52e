use Rattle.std.proofs.Common.{refl}
use Rattle.atspi_examples.proofs.Namings.{lacks}
use Rattle.atspi_examples.proofs.halts.losses.Goals as goal

pub returns-clause-lost : goal.returns-clause-lost
returns-clause-lost c = λ b. record { lost = refl; wrote = refl; names = refl }

pub returns-clause-unnamed : goal.returns-clause-unnamed
returns-clause-unnamed c = λ b h. lacks b h.names
