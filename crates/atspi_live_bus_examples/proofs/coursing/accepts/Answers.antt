use Rattle.std.proofs.Common.{refl, sym, ap, ◌∙◌}
use Rattle.std.specs.Prelude.{ℕ, Some}
use Rattle.atspi_live_bus_examples.proofs.Facts.{none_some, others, last_conn, seven_three}
use Rattle.atspi_live_bus_examples.proofs.coursing.accepts.Goals as goal

pub returns-clause-joined : goal.returns-clause-joined
returns-clause-joined c = (0, λ j e. none_some 0 e, refl, refl, refl, others)

pub returns-clause-used : goal.returns-clause-used
returns-clause-used c y is a = a.1 3 (ap (λ (w : ℕ). Some w) (last_conn a.0 (sym is ∙ a.2)))

pub returns-clause-of_another : goal.returns-clause-of_another
returns-clause-of_another c y is a = none_some 0 (sym is ∙ a.5 3 seven_three)

pub returns-clause-none_given : goal.returns-clause-none_given
returns-clause-none_given c y a = a

pub returns-clause-ended : goal.returns-clause-ended
returns-clause-ended c y a = a

pub returns-clause-failed : goal.returns-clause-failed
returns-clause-failed c y a = a
