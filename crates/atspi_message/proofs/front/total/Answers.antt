use Rattle.atspi_message.proofs.FrontLaws.{front_first}
use Rattle.atspi_message.proofs.front.total.Goals as goal

pub returns-clause-first : goal.returns-clause-first
returns-clause-first c = front_first c.args.first.now c.stated.result c.stated.ensures
