use Rattle.atspi_tree_model.proofs.ShapeOf.{shape_is_tree, shape_applies, shape_after}
use Rattle.atspi_tree_model.proofs.laws.shapes_follow.Goals as goal

pub returns : goal.returns
returns c = record { tree = shape_is_tree; applies = shape_applies; follows = shape_after }
