use Rattle.atspi_trace_laws.proofs.OfReaders.LawReaders.{readers_law}
use Rattle.atspi_trace_laws.proofs.readers.laws.readers_hold.Goals as goal

pub returns : goal.returns
returns c = readers_law
