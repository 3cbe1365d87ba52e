use Rattle.std.proofs.Common.{refl}
use Rattle.atspi_reader_known.specs.declared.plan.Plan.TheVariants.{Settle, Put}
use Rattle.atspi_reader_known.specs.Wanted.{refusing}
use Rattle.atspi_reader_known.proofs.Plans.{plan_changed, plan_forgets}
use Rattle.atspi_reader_known.proofs.laws.plans_are_changes.Goals as goal

pub returns-clause-settled : goal.returns-clause-settled
returns-clause-settled c = λ more name apps. plan_changed (Settle more) (refusing more.now) (λ app. refl) name apps

pub returns-clause-put : goal.returns-clause-put
returns-clause-put c = λ other name apps. plan_changed (Put other) (λ _. other.now) (λ app. refl) name apps

pub returns-clause-forgotten : goal.returns-clause-forgotten
returns-clause-forgotten c = plan_forgets
