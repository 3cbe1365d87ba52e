use Rattle.std.proofs.Common.{refl, arith}
use Rattle.std.specs.Fmt.{digits}
use Rattle.atspi_examples.proofs.lines.words.Goals as goal

pub returns-clause-number : goal.returns-clause-number
unfolding digits
returns-clause-number c = (omega arith, refl)

pub returns-clause-place : goal.returns-clause-place
unfolding digits
returns-clause-place c = (omega arith, refl)

pub returns-clause-least_quota : goal.returns-clause-least_quota
unfolding digits
returns-clause-least_quota c = (omega arith, omega arith, refl)

pub returns-clause-most_quota : goal.returns-clause-most_quota
unfolding digits
returns-clause-most_quota c = (omega arith, omega arith, refl)

pub returns-clause-app : goal.returns-clause-app
unfolding digits
returns-clause-app c = (omega arith, refl)

pub returns-clause-reader : goal.returns-clause-reader
unfolding digits
returns-clause-reader c = (omega arith, refl)

pub returns-clause-an_app : goal.returns-clause-an_app
unfolding digits
returns-clause-an_app c = (omega arith, refl)

pub returns-clause-a_reader : goal.returns-clause-a_reader
unfolding digits
returns-clause-a_reader c = (omega arith, refl)
