use Rattle.atspi_live_examples.proofs.app.naming.reasons_to_stop.Goals as goal

pub returns-clause-long : goal.returns-clause-long
returns-clause-long c marks lines took r = r

pub returns-clause-not_utf8 : goal.returns-clause-not_utf8
returns-clause-not_utf8 c marks lines took r = r

pub returns-clause-form : goal.returns-clause-form
returns-clause-form c marks lines took r = r

pub returns-clause-no_form : goal.returns-clause-no_form
returns-clause-no_form c lines took r = r.order

pub returns-clause-wanting : goal.returns-clause-wanting
returns-clause-wanting c lines took = tt

pub returns-clause-edit : goal.returns-clause-edit
returns-clause-edit c marks lines took r = r

pub returns-clause-spent : goal.returns-clause-spent
returns-clause-spent c marks lines took r = r

pub returns-clause-not_spent : goal.returns-clause-not_spent
returns-clause-not_spent c lines took r = r.order

pub returns-clause-edit_wanting : goal.returns-clause-edit_wanting
returns-clause-edit_wanting c lines took = tt
