use Rattle.atspi_live_app.proofs.examples.naming.meanings_of_reasons.Goals as goal

pub returns-clause-may_not : goal.returns-clause-may_not
returns-clause-may_not c what h = h

pub returns-clause-may : goal.returns-clause-may
returns-clause-may c h = h

pub returns-clause-refused : goal.returns-clause-refused
returns-clause-refused c s what h = h

pub returns-clause-not_refused : goal.returns-clause-not_refused
returns-clause-not_refused c s what never h = never h

pub returns-clause-spent : goal.returns-clause-spent
returns-clause-spent c s what h = h

pub returns-clause-not_spent : goal.returns-clause-not_spent
returns-clause-not_spent c h = h

pub returns-clause-wanting : goal.returns-clause-wanting
returns-clause-wanting c = tt
