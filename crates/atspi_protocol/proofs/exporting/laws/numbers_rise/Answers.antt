use Rattle.atspi_protocol.proofs.OfExporting.Rising.{numbers_rise}
use Rattle.atspi_protocol.proofs.exporting.laws.numbers_rise.Goals as goal

pub returns : goal.returns
returns c = numbers_rise
