use Rattle.atspi_tables.proofs.NameLemmas.{words_tell_roles, names_tell_roles, words_are_no_numbers}
use Rattle.atspi_tables.proofs.laws.names_tell_roles.Goals as goal

pub returns-clause-words : goal.returns-clause-words
returns-clause-words c = words_tell_roles

pub returns-clause-numbers : goal.returns-clause-numbers
returns-clause-numbers c = words_are_no_numbers

pub returns-clause-names : goal.returns-clause-names
returns-clause-names c = names_tell_roles
