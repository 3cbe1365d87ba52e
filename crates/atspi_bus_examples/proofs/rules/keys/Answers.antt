use Rattle.std.proofs.Common.{refl, arith}
use Rattle.std.specs.Fmt.{digits}
use Rattle.atspi_bus_examples.proofs.Faults.{one_ascii}
use Rattle.atspi_bus_examples.proofs.rules.keys.Goals as goal

pub returns-clause-keys : goal.returns-clause-keys
unfolding digits
returns-clause-keys c = refl

pub returns-clause-argument_64 : goal.returns-clause-argument_64
returns-clause-argument_64 c = λ is. omega (arith, is.0)

pub returns-clause-path_64 : goal.returns-clause-path_64
returns-clause-path_64 c = λ is. omega (arith, is.0)

pub returns-clause-last_argument : goal.returns-clause-last_argument
returns-clause-last_argument c = (omega arith, (one_ascii 120 (omega arith) refl refl).0)

pub returns-clause-last_path : goal.returns-clause-last_path
returns-clause-last_path c = (omega arith, (one_ascii 120 (omega arith) refl refl).0)
