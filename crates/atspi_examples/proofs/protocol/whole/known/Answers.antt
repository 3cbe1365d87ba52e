use Rattle.std.proofs.Common.{refl}
use Rattle.std.specs.FinMap.{gets}
use Rattle.atspi_examples.proofs.protocol.whole.known.Goals as goal

pub returns-clause-no_text : goal.returns-clause-no_text
returns-clause-no_text c = simp gets refl

pub returns-clause-other_columns : goal.returns-clause-other_columns
returns-clause-other_columns c = simp gets refl

pub returns-clause-no_actions : goal.returns-clause-no_actions
returns-clause-no_actions c = simp gets refl

pub returns-clause-other_actions : goal.returns-clause-other_actions
returns-clause-other_actions c = simp gets refl

pub returns-clause-text_below : goal.returns-clause-text_below
returns-clause-text_below c = simp gets refl

pub returns-clause-table_below : goal.returns-clause-table_below
returns-clause-table_below c = simp gets refl
