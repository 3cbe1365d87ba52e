use Rattle.std.proofs.Common.{arith}
use Rattle.atspi_live_examples.proofs.registry.standing.last_numbers.Goals as goal

pub returns-clause-last : goal.returns-clause-last
returns-clause-last c r took said whole at = record { whole = whole; numbered = omega (arith, at) }

pub returns-clause-passed : goal.returns-clause-passed
returns-clause-passed c r took said at a = omega (arith, at, a.numbered)
