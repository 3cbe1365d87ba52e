use Rattle.std.proofs.Common.{refl}
use Rattle.atspi_trace_examples.proofs.ways.what_is_on_the_way.Goals as goal

pub returns-clause-both : goal.returns-clause-both
returns-clause-both c = refl

pub returns-clause-another_reader : goal.returns-clause-another_reader
returns-clause-another_reader c = refl

pub returns-clause-another_application : goal.returns-clause-another_application
returns-clause-another_application c = refl
