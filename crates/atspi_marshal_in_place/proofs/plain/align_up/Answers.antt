use Rattle.atspi_marshal_in_place.proofs.Passes.{rounded}
use Rattle.atspi_marshal_in_place.proofs.plain.align_up.Goals as goal

pub returns : goal.returns
returns c = rounded c.args.align c.args.at c.requires.0
