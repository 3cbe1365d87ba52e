use Rattle.std.proofs.Common.{arith}
use Rattle.atspi_tree_model.specs.Map.{Root, Child}
use Rattle.atspi_examples.proofs.maps.of_room.Goals as goal

pub returns-clause-reached : goal.returns-clause-reached
returns-clause-reached c = Child {p = 0} Root (omega arith)
