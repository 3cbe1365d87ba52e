use Rattle.std.proofs.Common.{[], refl, sym}
use Rattle.atspi_trace_laws.proofs.OfOrder.Parties.{no_none}
use Rattle.atspi_trace_examples.proofs.held.shown_rows.Goals as goal

pub returns-clause-nothing : goal.returns-clause-nothing
returns-clause-nothing c = refl

pub returns-clause-no_rows : goal.returns-clause-no_rows
returns-clause-no_rows c h = no_none [] (sym h)

pub returns-clause-other_entry : goal.returns-clause-other_entry
returns-clause-other_entry c = tt
