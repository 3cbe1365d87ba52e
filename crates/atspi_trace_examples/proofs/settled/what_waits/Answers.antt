use Rattle.std.proofs.Common.{refl, sym}
use Rattle.atspi_trace_laws.proofs.OfOrder.Parties.{no_none}
use Rattle.atspi_trace_examples.proofs.settled.what_waits.Goals as goal

pub returns-clause-nothing : goal.returns-clause-nothing
returns-clause-nothing c = refl

pub returns-clause-news : goal.returns-clause-news
returns-clause-news c h = no_none _ (sym h)
