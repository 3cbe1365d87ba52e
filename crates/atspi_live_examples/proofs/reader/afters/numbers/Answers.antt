use Rattle.std.proofs.Common.{[], refl, arith}
use Rattle.atspi_live_examples.proofs.reader.afters.numbers.Goals as goal

pub returns-clause-last : goal.returns-clause-last
returns-clause-last c r took whole next = record { done = []; whole = whole; sent = refl; numbered = omega (arith, next) }

pub returns-clause-past : goal.returns-clause-past
returns-clause-past c r took said next a = omega (arith, next, a.numbered)
