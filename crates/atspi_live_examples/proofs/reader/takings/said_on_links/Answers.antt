use Rattle.std.proofs.Common.{[], ◌∷◌, drop, refl}
use Rattle.atspi_live_examples.specs.reader.Started.{hail}
use Rattle.atspi_live_examples.proofs.OfReader.Started.{not_said_first, said_first}
use Rattle.atspi_live_examples.proofs.reader.takings.said_on_links.Goals as goal

pub returns-clause-one : goal.returns-clause-one
returns-clause-one c = (said_first hail [] refl, tt)

pub returns-clause-part : goal.returns-clause-part
returns-clause-part c = (said_first (0 ∷ 65 ∷ 85 ∷ []) (drop 3 hail) refl, tt)

pub returns-clause-first_other : goal.returns-clause-first_other
returns-clause-first_other c s = not_said_first s.0

pub returns-clause-second_other : goal.returns-clause-second_other
returns-clause-second_other c s = not_said_first s.1.0
