use Rattle.std.proofs.Common.{refl}
use Rattle.atspi_reader_laws.proofs.Starting.{in_order, start_of_start, message_of_start}
use Rattle.atspi_reader_laws.proofs.laws.starts_ask_in_order.Goals as goal

pub returns-clause-otherwise : goal.returns-clause-otherwise
returns-clause-otherwise c = in_order

pub returns-clause-beginning : goal.returns-clause-beginning
returns-clause-beginning c = refl

pub returns-clause-start : goal.returns-clause-start
returns-clause-start c = start_of_start

pub returns-clause-message : goal.returns-clause-message
returns-clause-message c = message_of_start

pub returns-clause-call : goal.returns-clause-call
returns-clause-call c = λ s name node deed all. all
