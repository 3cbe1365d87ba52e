use Rattle.std.proofs.Common.{refl}
use Rattle.std.specs.Fmt.{digits}
use Rattle.atspi_run_hit_examples.proofs.words.ways.Goals as goal

pub returns-clause-place : goal.returns-clause-place
unfolding digits
returns-clause-place c = refl

pub returns-clause-inside : goal.returns-clause-inside
unfolding digits
returns-clause-inside c = refl

pub returns-clause-point : goal.returns-clause-point
unfolding digits
returns-clause-point c = refl

pub returns-clause-extents : goal.returns-clause-extents
unfolding digits
returns-clause-extents c = refl

pub returns-clause-cell : goal.returns-clause-cell
unfolding digits
returns-clause-cell c = refl

pub returns-clause-down : goal.returns-clause-down
unfolding digits
returns-clause-down c = refl

pub returns-clause-left : goal.returns-clause-left
unfolding digits
returns-clause-left c = refl

pub returns-clause-right : goal.returns-clause-right
unfolding digits
returns-clause-right c = refl

pub returns-clause-follow : goal.returns-clause-follow
unfolding digits
returns-clause-follow c = refl
