use Rattle.std.proofs.Common.{refl}
use Rattle.atspi_trace_laws.proofs.OfOrder.Parties.{false_true}
use Rattle.atspi_trace_examples.proofs.ways.who_is_here.Goals as goal

pub returns-clause-both : goal.returns-clause-both
returns-clause-both c = record { registry_lives = refl; reader_lives = refl; application_lives = refl }

pub returns-clause-another_reader : goal.returns-clause-another_reader
returns-clause-another_reader c h = false_true h.reader_lives

pub returns-clause-stopped : goal.returns-clause-stopped
returns-clause-stopped c h = false_true h.application_lives

pub returns-clause-closed : goal.returns-clause-closed
returns-clause-closed c h = false_true h.reader_lives

pub returns-clause-no_registry : goal.returns-clause-no_registry
returns-clause-no_registry c h = false_true h.registry_lives
