use Rattle.atspi_trace_laws.proofs.OfDrops.LawDrops.{drops_law}
use Rattle.atspi_trace_laws.proofs.drops.laws.drops_hold.Goals as goal

pub returns : goal.returns
returns c = drops_law
