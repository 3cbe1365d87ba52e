-- Which object of an application has a path, by its tree.
use Rattle.std.specs.Prelude.{◌≡◌, true, Option, Some}
use Rattle.std.specs.Option.{option_map}
use Rattle.atspi_tree_model.specs.Row.{ShapeRow}
use Rattle.atspi_tree_model.specs.Forest.{has}
use Rattle.atspi_tree_model.specs.Tree.{is_shape}
use Rattle.atspi_tree.specs.TreeShape.{TreeShape, row_of}
use Rattle.atspi_protocol.specs.whole.Whole.{Faces, filled}
use Rattle.atspi_protocol.specs.objects.Places.{Place, node, whole_tree}
use Rattle.atspi_app_answers.specs.declared.place.AppPlace.{AppPlace}
use Rattle.atspi_app_answers.specs.declared.place.AppPlace.TheVariants.{Tree, Node}

-- an object of the whole tree, if it is there
abbrev pub place_of : TreeShape → Faces → AppPlace → Option Place
place_of t faces Tree = Some whole_tree
place_of t faces (Node n) = option_map (λ (s : ShapeRow). node (filled faces s)) (row_of n t)

-- it is there, whatever the contents of nodes
abbrev pub IsThere : TreeShape → AppPlace → Type 0
IsThere t Tree = Unit {0}
IsThere t (Node n) = has (is_shape n) t.rows ≡ true
