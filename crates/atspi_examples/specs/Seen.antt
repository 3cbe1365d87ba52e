-- A reader's view of four nodes, with short paths, and the items and news about them.
use Rattle.std.specs.Prelude.{ℕ, ◌+◌, ℤ, pos, false, cond, bytes_eq, List, [], ◌∷◌, Option, Some, None, codes}
use Rattle.atspi_tree_model.specs.declared.view.Row.{Row}
use Rattle.atspi_tree_model.specs.declared.view.Part.TheVariants.{Absent, Unknown, Known}
use Rattle.atspi_tree_model.specs.declared.view.NumPart.TheVariants.{Absent as NoNumber, Unknown as UnknownNumber}
use Rattle.atspi_tree_model.specs.declared.view.NumPart.TheVariants.{Known as KnownNumber}
use Rattle.atspi_tree_model.specs.declared.news.Reference.{Reference}
use Rattle.atspi_tree_model.specs.declared.news.Item.{Item}
use Rattle.atspi_tree_model.specs.declared.news.News.{News}
use Rattle.atspi_tree_model.specs.Forest.{Forest, nil, tree, seats}
use Rattle.atspi_tree_model.specs.View.{Told}
use Rattle.atspi_tree_model.specs.News.{effect, load, told_after}
use Rattle.atspi_examples.specs.Room.{told_all}

-- the bus name of the application, and that of another
abbrev pub bus : List ℕ
bus = codes ":1"

abbrev pub other_bus : List ℕ
other_bus = codes ":2"

-- in the examples of readers node n has the path of a slash and a digit
abbrev pub path : ℕ → List ℕ
path n = 47 ∷ (48 + n) ∷ []

-- a row of this path, and nothing else
abbrev pub row : ℕ → Row
row n = record {
  path = path n;
  name = [];
  description = [];
  role = 0;
  states = 0;
  faces = 0;
  text = Absent;
  caret = NoNumber;
  columns = NoNumber;
}

-- a row with a known text, a known caret and a known count of columns
abbrev pub known_row : Row
known_row = record (row 1) { text = Known (codes "abc"); caret = KnownNumber 1; columns = KnownNumber 2 }

-- a row whose parts are not known
abbrev pub unknown_row : Row
unknown_row = record (row 2) { text = Unknown; caret = UnknownNumber; columns = UnknownNumber }

-- below the root: 1, with 3 below it, and 2
abbrev pub with_rows : Row → Row → Row → Forest Row
with_rows root one two = tree root (tree one (tree (row 3) nil nil) (tree two nil nil)) nil

-- the view: 1 is known, 2 is not, and the others have no parts
abbrev pub seen : Forest Row
seen = with_rows (row 0) known_row unknown_row

-- the view with another row 1, and with another row 2
abbrev pub seen_1 : Row → Forest Row
seen_1 one = with_rows (row 0) one unknown_row

abbrev pub seen_2 : Row → Forest Row
seen_2 two = with_rows (row 0) known_row two

-- the view after a news
abbrev pub hear : News → Forest Row
hear news = effect (path 0) bus seen news

-- an object of an application, whose bus name is given
abbrev pub object : List ℕ → ℕ → Reference
object name n = record { bus = name; path = path n }

-- an item of node n at an index of p, with the other fields as a stranger may send them
abbrev pub item : ℕ → ℕ → ℤ → Item
item n p i = record {
  object = object bus n;
  application = object other_bus 9;
  parent = object bus p;
  index = i;
  children = pos 7;
  interfaces = [];
  name = codes "n";
  role = 5;
  description = codes "d";
  states = 6;
}

-- a row after that item; its parts are as they were
abbrev pub renewed_by_item : Row → Row
renewed_by_item r = record r { name = codes "n"; description = codes "d"; role = 5; states = 6; faces = 0 }

-- each row of a view in preorder: its parent's path, none for the root, its index there, and its path
abbrev pub places : Forest Row → List (Option (List ℕ) × ℕ × List ℕ)
places v = at (seats (λ (r : Row). Some r.path) None 0 v)
  where
    at : List (Option (List ℕ) × ℕ × Row) → List (Option (List ℕ) × ℕ × List ℕ)
    at [] = []
    at (s ∷ ss) = (s.0, s.1, s.2.path) ∷ at ss

-- the place of the root
abbrev pub at_root : Option (List ℕ) × ℕ × List ℕ
at_root = (None, 0, path 0)

-- a place below a node
abbrev pub below : ℕ → ℕ → ℕ → Option (List ℕ) × ℕ × List ℕ
below p i n = (Some (path p), i, path n)

-- where the rows of a loaded list of items stand
abbrev pub loaded : List Item → List (Option (List ℕ) × ℕ × List ℕ)
loaded items = places (load (path 0) bus items)

-- a reader who was told nothing, and what it was told of a path after a news
abbrev pub told_nothing : List ℕ → Told
told_nothing path = record { text = false; caret = false; columns = false }

abbrev pub told_by : News → ℕ → Told
told_by news n = told_after told_nothing news (path n)

-- a reader who was told all of node 1 and nothing else, and what it was told of a path after a news
abbrev pub told_one : List ℕ → Told
told_one p = cond (bytes_eq p (path 1)) (told_all p) (told_nothing p)

abbrev pub told_again : News → ℕ → Told
told_again news n = told_after told_one news (path n)
