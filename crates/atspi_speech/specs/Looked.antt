-- The lines of a news, told from the rows that it names.
use Rattle.std.specs.Prelude.{ℕ, ◌≡◌, Bool, false, cond, List, Option, is_some, bytes_eq}
use Rattle.atspi_tree_model.specs.declared.view.Row.{Row}
use Rattle.atspi_tree_model.specs.declared.news.Item.{Item}
use Rattle.atspi_tree_model.specs.declared.news.News.{News}
use Rattle.atspi_tree_model.specs.declared.news.News.TheVariants.{Name, State, Inserted, Deleted, Item as NewItem}
use Rattle.atspi_tree_model.specs.Forest.{Forest, has, find}
use Rattle.atspi_tree_model.specs.States.{with_state}
use Rattle.atspi_tree_model.specs.News.{is_path}

-- the row and the parent's row that a news is about are these in a view
abbrev pub AreLookedUp : Forest Row → News → Option Row → Bool → Type 0
AreLookedUp v (NewItem item) row has_parent =
    (find (is_path item.object.path) v ≡ row) × (has (is_path item.parent.path) v ≡ has_parent)
AreLookedUp v (Name path text) row has_parent = find (is_path path) v ≡ row
AreLookedUp v (State path state on) row has_parent = find (is_path path) v ≡ row
AreLookedUp v (Inserted path at text) row has_parent = find (is_path path) v ≡ row
AreLookedUp v (Deleted path at len text) row has_parent = find (is_path path) v ≡ row
AreLookedUp v _ row has_parent = Unit {0}

-- whether an item adds a node, where its path has this row and its parent's path a row or none
abbrev pub adds : List ℕ → List ℕ → Option Row → Bool → Item → Bool
adds root bus row has_parent item =
    cond (bytes_eq item.object.bus bus)
    (cond (bytes_eq item.object.path root) false
    (cond (is_some row) false
    (cond (bytes_eq item.parent.bus bus) has_parent false)))
    false

-- the row after a change, if there is one
abbrev pub with_name : List ℕ → Row → Row
with_name name row = record row { name = name }

abbrev pub with_state_of : ℕ → Bool → Row → Row
with_state_of state on row = record row { states = with_state state on row.states }
