use Rattle.atspi_tables.proofs.NameLemmas.{names_tell_states}
use Rattle.atspi_tables.proofs.laws.names_tell_states.Goals as goal

pub returns : goal.returns
returns c = names_tell_states
