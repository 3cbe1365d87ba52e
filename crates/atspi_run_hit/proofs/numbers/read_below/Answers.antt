use Rattle.atspi_run_hit.proofs.Signed.{some_below}
use Rattle.atspi_run_hit.proofs.numbers.read_below.Goals as goal

pub returns-in-Some : goal.returns-in-Some
returns-in-Some c = some_below c.args.digits.now c.in-Some.size c.below_zero.result c.in-Some.ensures c.below_zero.ensures
