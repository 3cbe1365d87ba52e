use Rattle.atspi_marshal.proofs.Fronts.{read_again}
use Rattle.atspi_marshal.proofs.laws.is_read_again.Goals as goal

pub returns : goal.returns
returns c = read_again
