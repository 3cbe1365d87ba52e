use Rattle.atspi_run_hit.proofs.Signed.{some_from}
use Rattle.atspi_run_hit.proofs.numbers.read_from.Goals as goal

pub returns-in-Some : goal.returns-in-Some
returns-in-Some c = some_from c.args.word.now c.in-Some.size c.from_zero.result c.in-Some.ensures c.from_zero.ensures
