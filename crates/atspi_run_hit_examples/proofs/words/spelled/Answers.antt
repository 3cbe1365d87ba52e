use Rattle.std.proofs.Common.{[], refl, arith}
use Rattle.std.specs.Prelude.{codes}
use Rattle.std.specs.Fmt.{digits}
use Rattle.atspi_run_hit_examples.proofs.words.spelled.Goals as goal

pub returns-clause-extents : goal.returns-clause-extents
unfolding digits
returns-clause-extents c = (
  tt,
  (
    codes " 7",
    record { spelling = codes "extents"; spelled = refl; front = refl; behind = refl },
    ([], record { spelling = codes "7"; spelled = (omega arith, refl); front = refl; behind = tt }, refl),
  ),
)
