use Rattle.std.proofs.Common.{Some, refl, arith}
use Rattle.std.specs.Fmt.{digits}
use Rattle.atspi_run_hit_examples.proofs.told.cells.Goals as goal

pub returns-clause-some : goal.returns-clause-some
unfolding digits
returns-clause-some c = refl

pub returns-clause-none : goal.returns-clause-none
unfolding digits
returns-clause-none c = refl

pub returns-clause-child : goal.returns-clause-child
unfolding digits
returns-clause-child c = refl

pub returns-clause-no_child : goal.returns-clause-no_child
unfolding digits
returns-clause-no_child c = refl

pub returns-clause-down : goal.returns-clause-down
unfolding digits
returns-clause-down c = (Some 3, record { cell = omega arith; beside = (refl, refl) }, refl)
