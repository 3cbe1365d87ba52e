-- The first of a node's interfaces: of all nodes, of roots and of texts.
use Rattle.std.specs.Prelude.{ℕ, Bool, List, [], ◌∷◌, codes}
use Rattle.atspi_tree_model.specs.declared.contents.Kinds.{Kinds}
use Rattle.atspi_tree_model.specs.Announce.{named}

abbrev pub first_of_all : Bool → Kinds → List (List ℕ)
first_of_all is_root k =
    codes "org.a11y.atspi.Accessible"
    ∷ named is_root (codes "org.a11y.atspi.Application")
    (named k.text (codes "org.a11y.atspi.Text") [])
