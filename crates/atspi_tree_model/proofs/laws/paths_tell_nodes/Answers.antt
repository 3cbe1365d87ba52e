use Rattle.atspi_tree_model.proofs.Path.{path_of_apart}
use Rattle.atspi_tree_model.proofs.laws.paths_tell_nodes.Goals as goal

pub returns : goal.returns
returns c = path_of_apart
