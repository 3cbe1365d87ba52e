use Rattle.atspi_units.proofs.CutLemmas.{one_unit}
use Rattle.atspi_units.proofs.laws.one_unit.Goals as goal

pub returns : goal.returns
returns c = one_unit
