-- What is looked up in an application's own cache.
use Rattle.std.proofs.Common.{◌≡◌, ℕ, Bool, true, false, List, ◌∷◌, map, Option, Some, None, refl, sym, ap, ◌∙◌}
use Rattle.std.specs.Prelude.{bytes_eq, is_some}
use Rattle.std.specs.Option.{option_map}
use Rattle.atspi_tree_model.specs.declared.view.Row.{Row}
use Rattle.atspi_tree_model.specs.declared.news.Item.{Item}
use Rattle.atspi_tree_model.specs.declared.news.News.{News}
use Rattle.atspi_tree_model.specs.declared.news.News.TheVariants.{Removed, ChildAdded, ChildRemoved, Name, Description, Role, State, Inserted, Deleted, Caret, TextIs, CaretIs, ColumnsIs, Nothing, Item as NewItem}
use Rattle.atspi_tree_model.specs.Forest.{Forest, has, find}
use Rattle.atspi_tree_model.specs.News.{is_path}
use Rattle.atspi_cache_arena.specs.Sights.{Sight, sights}
use Rattle.atspi_speech.specs.Looked.{adds}
use Rattle.atspi_cache.specs.Cache.{View, row_in}
use Rattle.atspi_cache.proofs.Effects.{found_has}
use Rattle.atspi_protocol.specs.declared.news.part.PartName.{PartName}
use Rattle.atspi_protocol.specs.declared.following.question.Question.TheVariants.{GetItems}
use Rattle.atspi_protocol.specs.following.ReaderState.{Followed}
use Rattle.atspi_protocol.specs.following.Wishes.{wishes_of}
use Rattle.atspi_reader_known.specs.Kept.{rows_of}
use Rattle.atspi_reader_known.specs.Wanted.{first, first_part, first_wanted, wish_at}
use Rattle.atspi_reader_known.proofs.Rows.{row_of_sight}

same_some : {A : Type 0} {x y : A} → Some x ≡ Some y → x ≡ y
same_some e = cc

pub view_there : (o : Option View) → is_some o ≡ true → (v : Forest Row) × (rows_of o ≡ Some v)
view_there None h = absurd cc
view_there (Some v) h = (v.rows, refl)

pub row_there : (o : Option View) (view : Forest Row) (path : List ℕ) (b : Bool) → rows_of o ≡ Some view → is_some (row_in path o) ≡ b → has (is_path path) view ≡ b
row_there None view path b e h = absurd cc
row_there (Some v) view path b e h =
    ap (has (is_path path)) (sym (same_some e)) ∙ sym (found_has (is_path path) v.rows) ∙ h

pub row_found : (o : Option View) (view : Forest Row) (path : List ℕ) → rows_of o ≡ Some view → row_in path o ≡ find (is_path path) view
row_found None view path e = absurd cc
row_found (Some v) view path e = ap (find (is_path path)) (same_some e)

-- the tests, one after the other
pub adds_true : (root name : List ℕ) (o : Option View) (view : Forest Row) (item : Item) (r : Bool)
    → bytes_eq item.object.bus name ≡ true → bytes_eq item.object.path root ≡ false → is_some (row_in item.object.path o) ≡ false
    → bytes_eq item.parent.bus name ≡ true → is_some (row_in item.parent.path o) ≡ r → rows_of o ≡ Some view
    → r ≡ adds root name (find (is_path item.object.path) view) (has (is_path item.parent.path) view) item
adds_true root name o view item r own other fresh up there e =
    let known : is_some (find (is_path item.object.path) view) ≡ false = ap is_some (sym (row_found o view item.object.path e)) ∙ fresh in
    rw (own, other, known, up) (sym (row_there o view item.parent.path r e there))

pub no_other_wish : (app : Followed) (v : Forest Row) (news : News) → ((item : Item) → news ≡ NewItem item → ⊥) → ((child : List ℕ) → news ≡ ChildAdded child → ⊥)
    → None ≡ wish_at app v news
no_other_wish app v (NewItem item) n k = absurd (n item refl)
no_other_wish app v (ChildAdded child) n k = absurd (k child refl)
no_other_wish app v (Removed path) n k = refl
no_other_wish app v (ChildRemoved p i child) n k = refl
no_other_wish app v (Name p x) n k = refl
no_other_wish app v (Description p x) n k = refl
no_other_wish app v (Role p x) n k = refl
no_other_wish app v (State p s on) n k = refl
no_other_wish app v (Inserted p at x) n k = refl
no_other_wish app v (Deleted p at m x) n k = refl
no_other_wish app v (Caret p at) n k = refl
no_other_wish app v (TextIs p x) n k = refl
no_other_wish app v (CaretIs p at) n k = refl
no_other_wish app v (ColumnsIs p m) n k = refl
no_other_wish app v Nothing n k = refl

-- the rows that a walk shows
pub shown : (o : Option View) (rows : List Sight) → option_map (λ (v : View). sights v.rows) o ≡ Some rows → (v : Forest Row) × (rows_of o ≡ Some v) × (rows ≡ sights v)
shown None rows e = absurd cc
shown (Some v) rows e = (v.rows, refl, sym (same_some e))

pub not_shown : (o : Option View) → option_map (λ (v : View). sights v.rows) o ≡ None → rows_of o ≡ None
not_shown None e = refl
not_shown (Some v) e = absurd cc

-- all of an application is wanted
pub loading : (app : Followed) → app.reload ≡ true → Some (GetItems app.name) ≡ first (wishes_of app)
loading app e = by app.view refl
  where
    by : (o : Option (Forest Row)) → app.view ≡ o → Some (GetItems app.name) ≡ first (wishes_of app)
    by None f = rw f refl
    by (Some v) f = rw (f, e) refl

pub unheld : (app : Followed) → app.view ≡ None → Some (GetItems app.name) ≡ first (wishes_of app)
unheld app e = rw e refl

-- a walk that looks for the first part
module _ (refused : List (List ℕ × PartName)) (rest : List Sight) (whole : Option (List ℕ × PartName)) where
  pub found_now : (s : Sight) (more : List Sight) (part : PartName) → rest ≡ s ∷ more → first_part refused s.row ≡ Some part
      → first_wanted refused (map row_of_sight rest) ≡ whole → Some (s.row.path, part) ≡ whole
  found_now s more part e f h = let z : first_wanted refused (map row_of_sight (s ∷ more)) ≡ Some (s.row.path, part) = rw f refl in
      sym z ∙ ap (λ (l : List Sight). first_wanted refused (map row_of_sight l)) (sym e) ∙ h

  pub passed_now : (s : Sight) (more : List Sight) → rest ≡ s ∷ more → first_part refused s.row ≡ None
      → first_wanted refused (map row_of_sight rest) ≡ whole → first_wanted refused (map row_of_sight more) ≡ whole
  passed_now s more e f h = let z : first_wanted refused (map row_of_sight (s ∷ more)) ≡ first_wanted refused (map row_of_sight more) = rw f refl in
      sym z ∙ ap (λ (l : List Sight). first_wanted refused (map row_of_sight l)) (sym e) ∙ h
