use Rattle.std.proofs.Common.{refl}
use Rattle.std.specs.Fmt.{digits}
use Rattle.atspi_run_hit_examples.proofs.words.numbers.Goals as goal

pub returns-clause-zero : goal.returns-clause-zero
unfolding digits
returns-clause-zero c = refl

pub returns-clause-positive : goal.returns-clause-positive
unfolding digits
returns-clause-positive c = refl

pub returns-clause-negative : goal.returns-clause-negative
unfolding digits
returns-clause-negative c = refl

pub returns-clause-least : goal.returns-clause-least
unfolding digits
returns-clause-least c = refl
