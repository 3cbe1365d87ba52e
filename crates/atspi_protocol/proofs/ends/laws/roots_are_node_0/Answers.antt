use Rattle.std.proofs.Common.{refl}
use Rattle.atspi_tree_model.specs.Path.{path_of}
use Rattle.atspi_protocol.proofs.ends.laws.roots_are_node_0.Goals as goal

pub returns : goal.returns
unfolding path_of
returns c = refl
