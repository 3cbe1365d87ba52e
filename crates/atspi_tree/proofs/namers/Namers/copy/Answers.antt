use Rattle.atspi_tree.proofs.Notes.{copied}
use Rattle.atspi_tree.proofs.namers.Namers.copy.Goals as goal

pub returns : goal.returns
returns c = copied _ _ c.in_ok-clone.ensures.cases
