use Rattle.std.proofs.Common.{refl, lit<}
use Rattle.atspi_run_examples.proofs.texts.lines.Goals as goal

pub returns-clause-first : goal.returns-clause-first
returns-clause-first c = record { shorter = lit< tt; lines = refl }

pub returns-clause-not_first : goal.returns-clause-not_first
returns-clause-not_first c = λ rest h. let clash = h.lines in absurd cc
