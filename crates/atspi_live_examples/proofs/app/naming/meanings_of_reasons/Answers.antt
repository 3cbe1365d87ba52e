use Rattle.std.proofs.Common.{refl}
use Rattle.atspi_live_examples.proofs.app.naming.meanings_of_reasons.Goals as goal

pub returns-clause-refused : goal.returns-clause-refused
returns-clause-refused c s what h = h

pub returns-clause-not_refused : goal.returns-clause-not_refused
returns-clause-not_refused c s what never h = never h

pub returns-clause-spent : goal.returns-clause-spent
returns-clause-spent c s what h = h

pub returns-clause-not_spent : goal.returns-clause-not_spent
returns-clause-not_spent c h = h

pub returns-clause-wanting : goal.returns-clause-wanting
returns-clause-wanting c = tt

pub returns-clause-end_wanting : goal.returns-clause-end_wanting
returns-clause-end_wanting c = refl

pub returns-clause-end_spent : goal.returns-clause-end_spent
returns-clause-end_spent c = refl
