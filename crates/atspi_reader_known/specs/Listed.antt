-- What is wanted of an application as a list that is kept, so that the first of it is found without a walk.
use Rattle.std.specs.Prelude.{◌≡◌, ℕ, ℤ, pos, negsuc, Bool, true, false, cond, ◌&&◌, not, List, [], ◌∷◌, filter}
use Rattle.std.specs.Prelude.{flat_map, map, Option, Some, None, bytes_eq}
use Rattle.std.specs.Option.{option_map}
use Rattle.std.specs.List.{list_any}
use Rattle.atspi_tree_model.specs.declared.view.Row.{Row}
use Rattle.atspi_tree_model.specs.declared.news.News.{News}
use Rattle.atspi_tree_model.specs.declared.news.News.TheVariants.{Removed, ChildAdded, ChildRemoved, TextIs, CaretIs}
use Rattle.atspi_tree_model.specs.declared.news.News.TheVariants.{ColumnsIs, Item as NewItem}
use Rattle.atspi_tree_model.specs.Forest.{Forest, has, find}
use Rattle.atspi_tree_model.specs.News.{is_path, fresh}
use Rattle.atspi_tree_model.specs.Laws.{EachPathOnce}
use Rattle.atspi_speech.specs.Looked.{adds}
use Rattle.atspi_cache.specs.Cache.{View}
use Rattle.atspi_protocol.specs.declared.news.part.PartName.{PartName}
use Rattle.atspi_protocol.specs.declared.news.part.PartName.TheVariants.{Text, Caret, Columns}
use Rattle.atspi_protocol.specs.following.ReaderState.{Followed}
use Rattle.atspi_protocol.specs.following.Wishes.{is_refused, same_part, wishes_of}
use Rattle.atspi_reader_known.specs.Wanted.{first, part_question, refusing, unrefused}

-- the unknown parts of a row that were not refused, with the row's path, and those of some rows
abbrev pub row_wants : List (List ℕ × PartName) → Row → List (List ℕ × PartName)
row_wants refused row = map (λ (part : PartName). (row.path, part)) (unrefused refused row)

abbrev pub all_wants : List (List ℕ × PartName) → List Row → List (List ℕ × PartName)
all_wants refused rows = flat_map (row_wants refused) rows

-- those that are left where more parts are refused
abbrev pub left : List (List ℕ × PartName) → List (List ℕ × PartName) → List (List ℕ × PartName)
left more wants = filter (λ (want : List ℕ × PartName). not (is_refused more want.0 want.1)) wants

-- no part stands twice
abbrev pub is_same : List ℕ × PartName → List ℕ × PartName → Bool
is_same one other = bytes_eq one.0 other.0 && same_part one.1 other.1

abbrev pub AreOnce : List (List ℕ × PartName) → Type 0
AreOnce [] = Unit {0}
AreOnce (want ∷ wants) = (list_any (is_same want) wants ≡ false) × AreOnce wants

-- what is wanted of an application: whatever more is refused, its first wish is the first part that is left
pub record IsListing (wants : List (List ℕ × PartName)) (app : Followed) : Type 0 where
  pub once : AreOnce wants
  pub wanted : (more : List (List ℕ × PartName))
      → first (wishes_of (refusing more app)) ≡ option_map (part_question app.name) (first (left more wants))

-- so it is where it was listed
abbrev pub IsSoListed : Bool → List (List ℕ × PartName) → Followed → Type 0
IsSoListed listed wants app = listed ≡ true → IsListing wants app

-- each path of a view that is kept stands once
abbrev pub IsOnce : Option View → Type 0
IsOnce None = Unit {0}
IsOnce (Some v) = EachPathOnce v.rows

-- whether a list can follow a news, given the view before it: it stays as it is where the news changes no unknown part;
-- where it is empty, it gets the parts of a node that is added
abbrev pub is_empty : List (List ℕ × PartName) → Bool
is_empty [] = true
is_empty (want ∷ wants) = false

abbrev pub follows : List (List ℕ × PartName) → Forest Row → News → Bool
follows wants view (ChildAdded child) = has (is_path child) view
follows wants view (NewItem item) = is_empty wants
follows wants view (Removed path) = is_empty wants
follows wants view (ChildRemoved parent index child) = is_empty wants
follows wants view (TextIs path text) = is_empty wants
follows wants view (CaretIs path at) = is_empty wants
follows wants view (ColumnsIs path count) = is_empty wants
follows wants view news = true

abbrev pub fresh_wants : Followed → Forest Row → News → List (List ℕ × PartName)
fresh_wants app view (NewItem item) =
    cond (adds app.root app.name (find (is_path item.object.path) view) (has (is_path item.parent.path) view) item)
    (row_wants [] (fresh item)) []
fresh_wants app view news = []

-- these, or others where there are none
abbrev pub or_others : List (List ℕ × PartName) → List (List ℕ × PartName) → List (List ℕ × PartName)
or_others [] others = others
or_others (want ∷ wants) others = want ∷ wants

-- whether a list begins with a part, and with the one that a news tells
abbrev pub begins_with : List (List ℕ × PartName) → List ℕ × PartName → Bool
begins_with [] part = false
begins_with (want ∷ wants) part = is_same want part

abbrev pub is_count : ℤ → Bool
is_count (pos count) = true
is_count (negsuc _) = false

abbrev pub tells_first : List (List ℕ × PartName) → News → Bool
tells_first wants (TextIs path text) = begins_with wants (path, Text)
tells_first wants (CaretIs path at) = is_count at && begins_with wants (path, Caret)
tells_first wants (ColumnsIs path count) = is_count count && begins_with wants (path, Columns)
tells_first wants news = false
