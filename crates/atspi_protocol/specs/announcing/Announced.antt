-- The signals of a step: its announcement, and behind it the echoes.
use Rattle.std.specs.Prelude.{ℕ, pos, List, [], ◌∷◌, ◌++◌, map, length, Option, None, Some, codes}
use Rattle.atspi_types.specs.Kinds.{u32}
use Rattle.atspi_types.specs.Data.{text_data, number_data}
use Rattle.atspi_tree_model.specs.declared.step.Step.{Step}
use Rattle.atspi_tree_model.specs.declared.step.Step.TheVariants.{Add, Remove, Move, SetName, SetDescription, SetRole}
use Rattle.atspi_tree_model.specs.declared.step.Step.TheVariants.{SetState, Insert, Delete, Caret, TextSelect, Relate}
use Rattle.atspi_tree_model.specs.Forest.{Forest, labels, width, pick, find, children_at}
use Rattle.atspi_tree_model.specs.Row.{TreeRow}
use Rattle.atspi_tree_model.specs.RowRules.{rows}
use Rattle.atspi_tree_model.specs.Tree.{is_node, after, seat_of}
use Rattle.atspi_tree_model.specs.Path.{path_of}
use Rattle.atspi_tree_model.specs.Announce.{own, item_of}
use Rattle.atspi_protocol.specs.ends.Places.{reference}
use Rattle.atspi_protocol.specs.announcing.Signals.{Signal, child_changed, property_changed, state_changed}
use Rattle.atspi_protocol.specs.announcing.Signals.{text_changed, caret_moved, added, removed}

-- a node below a parent, with so many children
abbrev pub told_node : List ℕ → ℕ → ℕ → ℕ → Option TreeRow → List Signal
told_node bus parent index children None = []
told_node bus parent index children (Some row) = added (item_of bus (own bus parent) (pos index) children row) ∷ []

-- a node left the seat that it had
abbrev pub left : List ℕ → ℕ → Option (Option ℕ × ℕ) → List Signal
left bus n (Some (Some parent, index)) = child_changed bus parent (codes "remove") index n ∷ []
left bus n _ = []

-- of the tree before the step, of an application with this name
abbrev pub announced : List ℕ → Forest TreeRow → Step → List Signal
announced bus f (Add n p i seed) = told_node bus p i 0 (Some (rows.first n seed))
    ++ child_changed bus p (codes "add") i n ∷ []
announced bus f (Remove n) =
    left bus n (seat_of rows n f) ++ map (λ (row : TreeRow). removed bus row.shape.node) (labels (pick (is_node n) f))
announced bus f (Move n p i) =
    let g = after rows f (Move n p i) in
    told_node bus p i (width (children_at (is_node n) g)) (find (is_node n) g)
    ++ left bus n (seat_of rows n f)
    ++ property_changed n (codes "accessible-parent") (reference bus (path_of p))
    ∷ child_changed bus p (codes "add") i n ∷ []
announced bus f (SetName n x) = property_changed n (codes "accessible-name") (text_data x) ∷ []
announced bus f (SetDescription n x) = property_changed n (codes "accessible-description") (text_data x) ∷ []
announced bus f (SetRole n role) = property_changed n (codes "accessible-role") (number_data u32 role) ∷ []
announced bus f (SetState n state on) = state_changed n state on ∷ []
announced bus f (Insert n at x) = text_changed n (codes "insert") at (length x) x ∷ []
announced bus f (Delete n at x) = text_changed n (codes "delete") at (length x) x ∷ []
announced bus f (Caret n at) = caret_moved n at ∷ []
announced bus f (TextSelect n marks) = []
announced bus f (Relate n kind targets) = []
