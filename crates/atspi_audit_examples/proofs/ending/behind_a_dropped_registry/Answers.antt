use Rattle.std.proofs.Common.{refl, inr}
use Rattle.atspi_audit_examples.proofs.ending.behind_a_dropped_registry.Goals as goal

pub returns-clause-nothing : goal.returns-clause-nothing
returns-clause-nothing c = λ b. refl

pub returns-clause-not_refused : goal.returns-clause-not_refused
returns-clause-not_refused c = λ b. refl

pub returns-clause-end : goal.returns-clause-end
returns-clause-end c = λ b. inr refl
