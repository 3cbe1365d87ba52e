use Rattle.atspi_marshal.proofs.Fronts.{no_front}
use Rattle.atspi_marshal.proofs.laws.no_front_of_another.Goals as goal

pub returns : goal.returns
returns c = no_front
