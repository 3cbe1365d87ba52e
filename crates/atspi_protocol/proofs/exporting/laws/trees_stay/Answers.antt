use Rattle.atspi_protocol.proofs.OfExporting.Staying.{answers_apply, trees_stay}
use Rattle.atspi_protocol.proofs.exporting.laws.trees_stay.Goals as goal

pub returns-clause-steps : goal.returns-clause-steps
returns-clause-steps c = answers_apply

pub returns-clause-trees : goal.returns-clause-trees
returns-clause-trees c = trees_stay
