use Rattle.std.proofs.Common.{arith}
use Rattle.atspi_match.proofs.ReadingLemmas.{spelled_long}
use Rattle.atspi_bus_examples.proofs.rules.long.Goals as goal

pub returns-clause-most : goal.returns-clause-most
returns-clause-most c = λ bytes rule spells len. record { spells = spells; short = omega (arith, len) }

pub returns-clause-one_more : goal.returns-clause-one_more
returns-clause-one_more c = λ bytes rule spells len. spelled_long bytes rule spells (omega (arith, len))

pub returns-clause-no_text : goal.returns-clause-no_text
returns-clause-no_text c = λ bytes rule len text. omega (arith, len, text.short)
