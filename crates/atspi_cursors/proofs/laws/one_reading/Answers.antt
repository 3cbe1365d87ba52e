use Rattle.atspi_cursors.proofs.CursorLemmas.{one_reading}
use Rattle.atspi_cursors.proofs.laws.one_reading.Goals as goal

pub returns : goal.returns
returns c = one_reading
