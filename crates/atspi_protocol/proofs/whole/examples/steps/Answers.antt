use Rattle.std.proofs.Common.{refl}
use Rattle.std.specs.FinMap.{gets}
use Rattle.atspi_protocol.proofs.whole.examples.steps.Goals as goal

pub returns-clause-insert : goal.returns-clause-insert
returns-clause-insert c = simp gets refl

pub returns-clause-delete : goal.returns-clause-delete
returns-clause-delete c = simp gets refl

pub returns-clause-caret : goal.returns-clause-caret
returns-clause-caret c = simp gets refl

pub returns-clause-selections : goal.returns-clause-selections
returns-clause-selections c = simp gets refl

pub returns-clause-removed : goal.returns-clause-removed
returns-clause-removed c = simp gets refl

pub returns-clause-left : goal.returns-clause-left
returns-clause-left c = simp gets refl

pub returns-clause-added_text : goal.returns-clause-added_text
returns-clause-added_text c = simp gets refl

pub returns-clause-added_table : goal.returns-clause-added_table
returns-clause-added_table c = simp gets refl

pub returns-clause-added_actions : goal.returns-clause-added_actions
returns-clause-added_actions c = simp gets refl

pub returns-clause-added_no_text : goal.returns-clause-added_no_text
returns-clause-added_no_text c = simp gets refl
