use Rattle.atspi_names.proofs.OwnersLemmas.{early-empty}
use Rattle.atspi_names.proofs.names.Names.new.Goals as goal

pub invariant_of-result : goal.invariant_of-result
invariant_of-result c = early-empty 0 c.new-2.result c.new-2.ensures
