use Rattle.atspi_run_hit.proofs.Signed.{signed_below}
use Rattle.atspi_run_hit.proofs.numbers.read_signed.Goals as goal

pub returns-in-Some : goal.returns-in-Some
returns-in-Some c = signed_below c.args.word.now c.in-Some.digits.now c.read_below.result c.in-Some.ensures c.read_below.ensures
