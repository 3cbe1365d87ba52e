use Rattle.atspi_tree_model.proofs.Seen.{seen}
use Rattle.atspi_tree_model.proofs.Parts.{part_seen}
use Rattle.atspi_tree_model.proofs.laws.steps_are_seen.Goals as goal

pub returns : goal.returns
returns c = record { steps = seen; parts = part_seen }
