use Rattle.std.proofs.Common.{refl}
use Rattle.atspi_examples.proofs.Namings.{lacks, too_early}
use Rattle.atspi_examples.proofs.halts.names.Goals as goal

pub returns-clause-both : goal.returns-clause-both
returns-clause-both c = λ b. refl

pub returns-clause-left : goal.returns-clause-left
returns-clause-left c = λ b. refl

pub returns-clause-none_yet : goal.returns-clause-none_yet
returns-clause-none_yet c = λ b. refl

pub returns-clause-lacking : goal.returns-clause-lacking
returns-clause-lacking c = lacks

pub returns-clause-early : goal.returns-clause-early
returns-clause-early c = too_early

pub returns-clause-fewer : goal.returns-clause-fewer
returns-clause-fewer c = λ b h. absurd cc
