use Rattle.atspi_trace_laws.proofs.OfMissed.Listening.{listen}
use Rattle.atspi_trace_laws.proofs.missed.laws.applications_listen.Goals as goal

pub returns : goal.returns
returns c = listen
