use Rattle.std.proofs.Common.{refl}
use Rattle.std.specs.FinMap.{gets}
use Rattle.atspi_examples.proofs.protocol.whole.added.Goals as goal

pub returns-clause-text : goal.returns-clause-text
returns-clause-text c = simp gets refl

pub returns-clause-columns : goal.returns-clause-columns
returns-clause-columns c = simp gets refl

pub returns-clause-actions : goal.returns-clause-actions
returns-clause-actions c = simp gets refl

pub returns-clause-other_text : goal.returns-clause-other_text
returns-clause-other_text c = simp gets refl

pub returns-clause-other_columns : goal.returns-clause-other_columns
returns-clause-other_columns c = simp gets refl

pub returns-clause-other_actions : goal.returns-clause-other_actions
returns-clause-other_actions c = simp gets refl

pub returns-clause-no_table_of_text : goal.returns-clause-no_table_of_text
returns-clause-no_table_of_text c = simp gets refl
