use Rattle.std.proofs.Common.{refl, arith}
use Rattle.std.specs.Fmt.{digits}
use Rattle.atspi_live_examples.proofs.app.standing.texts_of_lines.Goals as goal

pub returns-clause-most : goal.returns-clause-most
unfolding digits
returns-clause-most c = (omega arith, refl)
