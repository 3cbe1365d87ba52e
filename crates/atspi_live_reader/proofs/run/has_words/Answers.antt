use Rattle.atspi_live_reader.proofs.Running.{may_have, no_words}
use Rattle.atspi_live_reader.proofs.run.has_words.Goals as goal

pub returns-in-NotAuthenticated-clause-no : goal.returns-in-NotAuthenticated-clause-no
returns-in-NotAuthenticated-clause-no c e h = no_words c.args.ending c.in-NotAuthenticated.is h

pub returns-in_default-clause-yes : goal.returns-in_default-clause-yes
returns-in_default-clause-yes c t = may_have c.args.ending c.in_default.not-NotAuthenticated c.in_default.not-NoMemory
