use Rattle.std.proofs.Common.{[]}
use Rattle.atspi_units.specs.Units.{ends_unit}
use Rattle.atspi_units.proofs.CutLemmas.{concat-cut, some_cut}
use Rattle.atspi_units.proofs.laws.pieces_are_the_text.Goals as goal

pub returns-clause-joined : goal.returns-clause-joined
returns-clause-joined c = λ text. concat-cut (ends_unit c.args._unit) [] text []

pub returns-clause-some : goal.returns-clause-some
returns-clause-some c = λ text. some_cut (ends_unit c.args._unit) [] text []
