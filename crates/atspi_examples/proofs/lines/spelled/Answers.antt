use Rattle.std.proofs.Common.{refl, [], codes}
use Rattle.atspi_examples.proofs.lines.spelled.Goals as goal

pub returns-clause-drain : goal.returns-clause-drain
returns-clause-drain c = ([], record { spelling = codes "drain"; spelled = refl; front = refl; behind = tt }, refl)

pub returns-clause-two : goal.returns-clause-two
returns-clause-two c = (
  codes " b",
  record { spelling = codes "a"; spelled = refl; front = refl; behind = refl },
  ([], record { spelling = codes "b"; spelled = refl; front = refl; behind = tt }, refl),
)
