-- What each news makes of a view, a stranger's news too, and the view of any list of items.
use Rattle.std.specs.Prelude.{ℕ, suc, ◌==◌, ℤ, pos, negsuc, nat_le, Bool, true, false, cond, not, List, [], ◌∷◌, Option}
use Rattle.std.specs.Prelude.{Some, None, length, filter, codes, bytes_eq}
use Rattle.atspi_tree_model.specs.declared.contents.Kinds.{Kinds}
use Rattle.atspi_tree_model.specs.declared.view.Part.{Part}
use Rattle.atspi_tree_model.specs.declared.view.Part.TheVariants.{Absent, Unknown, Known}
use Rattle.atspi_tree_model.specs.declared.view.NumPart.{NumPart}
use Rattle.atspi_tree_model.specs.declared.view.NumPart.TheVariants.{Absent as NoNumber, Unknown as UnknownNumber}
use Rattle.atspi_tree_model.specs.declared.view.NumPart.TheVariants.{Known as KnownNumber}
use Rattle.atspi_tree_model.specs.declared.view.Row.{Row}
use Rattle.atspi_tree_model.specs.declared.news.Reference.{Reference}
use Rattle.atspi_tree_model.specs.declared.news.Item.{Item}
use Rattle.atspi_tree_model.specs.declared.news.News.{News}
use Rattle.atspi_tree_model.specs.declared.news.News.TheVariants.{Removed, ChildAdded, ChildRemoved, Name, Description}
use Rattle.atspi_tree_model.specs.declared.news.News.TheVariants.{Role, State, Inserted, Deleted, Caret, TextIs}
use Rattle.atspi_tree_model.specs.declared.news.News.TheVariants.{CaretIs, ColumnsIs, Nothing, Item as NewItem}
use Rattle.atspi_tree_model.specs.Forest.{Forest, nil, tree, has, put_in, take_out, pick, relabel, change, place, grow}
use Rattle.atspi_tree_model.specs.States.{with_state}
use Rattle.atspi_tree_model.specs.Row.{insert_there, delete_there}
use Rattle.atspi_tree_model.specs.View.{Told, kinds_number}

-- the test for a row's path
abbrev pub is_path : List ℕ → Row → Bool
is_path path row = bytes_eq row.path path

-- a reference names a row only by the application's own bus name
abbrev pub names : List ℕ → Reference → Row → Bool
names bus r row = cond (bytes_eq r.bus bus) (is_path r.path row) false

-- a place among siblings; a negative index is the end
abbrev pub spot : ℤ → Option ℕ
spot (pos n) = Some n
spot (negsuc n) = None

-- whether a list of interfaces has this one
abbrev pub offers : List ℕ → List (List ℕ) → Bool
offers name [] = false
offers name (x ∷ xs) = cond (bytes_eq x name) true (offers name xs)

-- the kinds that a list of interfaces names
abbrev pub kinds_of : List (List ℕ) → Kinds
kinds_of interfaces = record {
  text = offers (codes "org.a11y.atspi.Text") interfaces;
  editable = offers (codes "org.a11y.atspi.EditableText") interfaces;
  selection = offers (codes "org.a11y.atspi.Selection") interfaces;
  table = offers (codes "org.a11y.atspi.Table") interfaces;
  action = offers (codes "org.a11y.atspi.Action") interfaces;
}

-- a text that is there, but not known
abbrev pub unknown_text_if : Bool → Part
unknown_text_if true = Unknown
unknown_text_if false = Absent

-- a number that is there, but not known
abbrev pub unknown_number_if : Bool → NumPart
unknown_number_if true = UnknownNumber
unknown_number_if false = NoNumber

-- name, description, role, states and interfaces of an item put into a row, whose parts stay
abbrev pub renewed : Item → Row → Row
renewed item row = record row {
  name = item.name;
  description = item.description;
  role = item.role;
  states = item.states;
  faces = kinds_number (kinds_of item.interfaces);
}

-- the row of a node that was not known: its parts are unknown where its interfaces name them
abbrev pub fresh : Item → Row
fresh item = record {
  path = item.object.path;
  name = item.name;
  description = item.description;
  role = item.role;
  states = item.states;
  faces = kinds_number (kinds_of item.interfaces);
  text = unknown_text_if (kinds_of item.interfaces).text;
  caret = unknown_number_if (kinds_of item.interfaces).text;
  columns = unknown_number_if (kinds_of item.interfaces).table;
}

-- a change of a text that is known
abbrev pub known_text_with : (List ℕ → List ℕ) → Part → Part
known_text_with f Absent = Absent
known_text_with f Unknown = Unknown
known_text_with f (Known x) = Known (f x)

-- another number in place of a known one
abbrev pub known_number_to : ℕ → NumPart → NumPart
known_number_to n NoNumber = NoNumber
known_number_to n UnknownNumber = UnknownNumber
known_number_to n (KnownNumber x) = KnownNumber n

-- a text told to one who may not have known it; a node without one has none still
abbrev pub told_text : List ℕ → Part → Part
told_text x Absent = Absent
told_text x Unknown = Known x
told_text x (Known y) = Known x

-- the same of a number
abbrev pub told_number : ℕ → NumPart → NumPart
told_number x NoNumber = NoNumber
told_number x UnknownNumber = KnownNumber x
told_number x (KnownNumber y) = KnownNumber x

-- a signed number that is to be a count: what is below zero changes nothing
abbrev pub with_count : ℤ → (ℕ → NumPart → NumPart) → NumPart → NumPart
with_count (pos n) f part = f n part
with_count (negsuc _) f part = part

-- the item of a known node moves it to the item's index below the item's parent, if that is known without the node
abbrev pub moved : (Row → Bool) → (Row → Bool) → Item → Forest Row → Forest Row
moved is up item v =
    cond (has up (take_out is v))
    (change is (renewed item) (put_in up (spot item.index) (pick is v) (take_out is v)))
    v

-- the item of an unknown node adds it there
abbrev pub added : (Row → Bool) → Item → Forest Row → Forest Row
added up item v = cond (has up v) (put_in up (spot item.index) (tree (fresh item) nil nil) v) v

-- an item of another application says nothing, that of the root renews its row
abbrev pub item_effect : List ℕ → List ℕ → Item → Forest Row → Forest Row
item_effect root bus item v =
    cond (bytes_eq item.object.bus bus)
    (cond (bytes_eq item.object.path root)
    (change (is_path root) (renewed item) v)
    (cond (has (is_path item.object.path) v)
    (moved (is_path item.object.path) (names bus item.parent) item v)
    (added (names bus item.parent) item v)))
    v

-- whether a seat is this index of this parent
abbrev pub is_below : List ℕ → ℕ → Option (List ℕ) → ℕ → Bool
is_below p i None j = false
is_below p i (Some up) j = cond (bytes_eq up p) (j == i) false

-- whether a seat is this index of this parent
abbrev pub is_seat_at : List ℕ → ℤ → Option (Option (List ℕ) × ℕ) → Bool
is_seat_at p i None = false
is_seat_at p (negsuc _) (Some seat) = false
is_seat_at p (pos i) (Some seat) = is_below p i seat.0 seat.1

-- where a path stands: its parent's path, none at the top, and its index
abbrev pub seat_in : List ℕ → Forest Row → Option (Option (List ℕ) × ℕ)
seat_in path v = place (λ (row : Row). Some row.path) (is_path path) None 0 v

-- the view after a news; root is the root's path, bus the application's name
abbrev pub effect : List ℕ → List ℕ → Forest Row → News → Forest Row
effect root bus v (NewItem item) = item_effect root bus item v
effect root bus v (Removed path) = cond (bytes_eq path root) v (take_out (is_path path) v)
effect root bus v (ChildAdded child) = v
effect root bus v (ChildRemoved p i child) = cond (is_seat_at p i (seat_in child v)) (take_out (is_path child) v) v
effect root bus v (Name p x) = change (is_path p) (λ row. record row { name = x }) v
effect root bus v (Description p x) = change (is_path p) (λ row. record row { description = x }) v
effect root bus v (Role p x) = change (is_path p) (λ row. record row { role = x }) v
effect root bus v (State p s on) = change (is_path p) (λ row. record row { states = with_state s on row.states }) v
effect root bus v (Inserted p at x) =
    change (is_path p) (λ row. record row { text = known_text_with (insert_there at x) row.text }) v
effect root bus v (Deleted p at n x) =
    change (is_path p) (λ row. record row { text = known_text_with (delete_there at n) row.text }) v
effect root bus v (Caret p at) =
    change (is_path p) (λ row. record row { caret = with_count at known_number_to row.caret }) v
effect root bus v (TextIs p x) = change (is_path p) (λ row. record row { text = told_text x row.text }) v
effect root bus v (CaretIs p at) =
    change (is_path p) (λ row. record row { caret = with_count at told_number row.caret }) v
effect root bus v (ColumnsIs p n) =
    change (is_path p) (λ row. record row { columns = with_count n told_number row.columns }) v
effect root bus v Nothing = v

-- which parts a reader was told after a news; a caret or count below zero tells nothing
abbrev pub told_after : (List ℕ → Told) → News → List ℕ → Told
told_after told (TextIs p x) path = cond (bytes_eq path p) (record (told path) { text = true }) (told path)
told_after told (CaretIs p (pos at)) path = cond (bytes_eq path p) (record (told path) { caret = true }) (told path)
told_after told (ColumnsIs p (pos n)) path = cond (bytes_eq path p) (record (told path) { columns = true }) (told path)
told_after told news path = told path

-- a news that asks for the whole list again: the addition of a child that is not known
abbrev pub marks_reload : Forest Row → News → Bool
marks_reload v (ChildAdded child) = not (has (is_path child) v)
marks_reload v news = false

-- whether two items are of one object
abbrev pub is_same_object : Item → Item → Bool
is_same_object x y = bytes_eq x.object.path y.object.path

-- the items without those whose object stood before
abbrev pub firsts : List Item → List Item
firsts [] = []
firsts (x ∷ xs) = x ∷ filter (λ y. not (is_same_object y x)) (firsts xs)

-- at most, of signed numbers
abbrev pub at_most : ℤ → ℤ → Bool
at_most (negsuc i) (negsuc j) = nat_le j i
at_most (negsuc i) (pos j) = true
at_most (pos i) (negsuc j) = false
at_most (pos i) (pos j) = nat_le i j

-- an item put in order of index before those of the same index, which stood behind it
abbrev pub sorted_in : Item → List Item → List Item
sorted_in x [] = x ∷ []
sorted_in x (y ∷ ys) = cond (at_most x.index y.index) (x ∷ y ∷ ys) (y ∷ sorted_in x ys)

-- items in rising order of index
abbrev pub by_index : List Item → List Item
by_index [] = []
by_index (x ∷ xs) = sorted_in x (by_index xs)

-- an item whose parent is this one's object; the root is nobody's child
abbrev pub is_child : List ℕ → List ℕ → Item → Item → Bool
is_child root bus parent item =
    cond (bytes_eq item.object.path root) false
    (cond (bytes_eq item.parent.bus bus) (bytes_eq item.parent.path parent.object.path) false)

-- the children of an item among these, in order
abbrev pub children_in : List ℕ → List ℕ → List Item → Item → List Item
children_in root bus items parent = by_index (filter (is_child root bus parent) items)

-- the application's own objects, each once
abbrev pub own_items : List ℕ → List Item → List Item
own_items bus items = firsts (filter (λ item. bytes_eq item.object.bus bus) items)

-- the items that the root reaches, each below its parent. No chain of parents is longer than the list
abbrev pub reached : List ℕ → List ℕ → List Item → Forest Item
reached root bus items =
    grow (suc (length items)) (children_in root bus (own_items bus items))
    (filter (λ item. bytes_eq item.object.path root) (own_items bus items))

-- the view of a list of items
abbrev pub load : List ℕ → List ℕ → List Item → Forest Row
load root bus items = relabel fresh (reached root bus items)
