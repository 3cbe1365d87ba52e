-- What is wanted of an application after a news, where nothing was wanted before.
use Rattle.std.proofs.Common.{◌≡◌, ℕ, Bool, true, false, cond, inl, inr, List, [], ◌∷◌, Option, Some, None, ◌++◌, append-nil, refl, sym, ap, subst, ◌∙◌}
use Rattle.std.specs.Prelude.{◌||◌, bytes_eq}
use Rattle.std.specs.Option.{option_map}
use Rattle.atspi_tree_model.specs.declared.view.Row.{Row}
use Rattle.atspi_tree_model.specs.declared.news.Item.{Item}
use Rattle.atspi_tree_model.specs.declared.news.News.{News}
use Rattle.atspi_tree_model.specs.declared.news.News.TheVariants.{Removed, ChildAdded, ChildRemoved, Name, Description, Role, State, Inserted, Deleted, Caret, TextIs, CaretIs, ColumnsIs, Nothing, Item as NewItem}
use Rattle.atspi_tree_model.specs.Forest.{Forest, nil, tree, labels, has, find, put_in, change, EachLabel}
use Rattle.atspi_tree_model.specs.News.{is_path, names, spot, effect, fresh, renewed, item_effect, added, moved, marks_reload}
use Rattle.atspi_tree_model.proofs.Labels.{each_put_in}
use Rattle.atspi_tree_model.proofs.Found.{EachLabel-weaker}
use Rattle.atspi_cache.proofs.Effects.{found_has}
use Rattle.atspi_speech.specs.Looked.{adds}
use Rattle.atspi_protocol.specs.declared.news.part.PartName.{PartName}
use Rattle.atspi_protocol.specs.declared.following.question.Question.TheVariants.{GetItems, GetPart}
use Rattle.atspi_protocol.specs.following.ReaderState.{Followed}
use Rattle.atspi_protocol.specs.following.Takes.{folded, still_refused}
use Rattle.atspi_protocol.specs.following.Wishes.{wishes_of}
use Rattle.atspi_reader_known.specs.Wanted.{first, first_part, first_wanted, part_question, refusing, wish_at}
use Rattle.atspi_reader_known.proofs.Anew.{adds_new, fresh_still, settled_still}
use Rattle.atspi_reader_known.proofs.Firsts.{none_mapped}
use Rattle.atspi_reader_known.proofs.Rows.{first_held}
use Rattle.atspi_reader_known.proofs.Fewer.{IsSettled, AddsNone, effect_settled, renewed_settled, moved_settled}
use Rattle.atspi_reader_known.proofs.Adding.{each_labels, each_of_labels, any_labels, has_put_in, none_wanted, all_settled, one_wanted, IsOrSettled, is_wanted}

no_such : (f : Forest Row) → has (λ (row : Row). false) f ≡ false
no_such nil = refl
no_such (tree a c r) = rw (no_such c, no_such r) refl

module _ (refused : List (List ℕ × PartName)) (root bus : List ℕ) (item : Item) (v : Forest Row) (h : EachLabel (IsSettled refused) v) where
  abbrev wanted_in : Forest Row → Option (List ℕ × PartName)
  wanted_in f = first_wanted refused (labels f)

  abbrev new_part : Option (List ℕ × PartName)
  new_part = option_map (λ (part : PartName). (item.object.path, part)) (first_part refused (fresh item))

  nothing_in : (f : Forest Row) → EachLabel (IsSettled refused) f → wanted_in f ≡ None
  nothing_in f k = none_wanted refused (labels f) (each_labels (IsSettled refused) f k)

  put_fresh : (up : Row → Bool) → has up v ≡ true → (o : Option PartName) → first_part refused (fresh item) ≡ o
      → wanted_in (put_in up (spot item.index) (tree (fresh item) nil nil) v) ≡ option_map (λ (part : PartName). (item.object.path, part)) o
  put_fresh up there None e = nothing_in _ (each_put_in (IsSettled refused) up (spot item.index) (tree (fresh item) nil nil) v (e, tt, tt) h)
  put_fresh up there (Some part) e =
      let P = IsOrSettled refused (fresh item) part e in
      let w = put_in up (spot item.index) (tree (fresh item) nil nil) v in
      let all : EachLabel P w = each_put_in P up (spot item.index) (tree (fresh item) nil nil) v (inr refl, tt, tt) (EachLabel-weaker (IsSettled refused) P (λ a k. inl k) v h) in
      let q = is_wanted refused (fresh item) part e in
      let here : has q (tree (fresh item) nil nil) ≡ true = rw e refl in
      one_wanted refused (fresh item) part e (labels w) (each_labels P w all) (any_labels q w ∙ has_put_in q up (spot item.index) (tree (fresh item) nil nil) v here there)

  added_if : (b : Bool) (up : Row → Bool) → has up v ≡ b
      → wanted_in (cond b (put_in up (spot item.index) (tree (fresh item) nil nil) v) v) ≡ cond b new_part None
  added_if true up e = put_fresh up e (first_part refused (fresh item)) refl
  added_if false up e = nothing_in v h

  added_by : (b : Bool) (up : Row → Bool) → has up v ≡ b → wanted_in (added up item v) ≡ cond b new_part None
  added_by b up e = ap (λ (t : Bool). wanted_in (cond t (put_in up (spot item.index) (tree (fresh item) nil nil) v) v)) e ∙ added_if b up e

  added_as : (own : Bool) → bytes_eq item.parent.bus bus ≡ own
      → wanted_in (added (names bus item.parent) item v) ≡ cond (cond own (has (is_path item.parent.path) v) false) new_part None
  added_as true e =
      let same : names bus item.parent ≡ is_path item.parent.path = ap {B = Row → Bool} (λ (b : Bool) (row : Row). cond b (is_path item.parent.path row) false) e in
      ap (λ (up : Row → Bool). wanted_in (added up item v)) same ∙ added_by (has (is_path item.parent.path) v) (is_path item.parent.path) refl
  added_as false e =
      let none : names bus item.parent ≡ (λ (row : Row). false) = ap {B = Row → Bool} (λ (b : Bool) (row : Row). cond b (is_path item.parent.path row) false) e in
      ap (λ (up : Row → Bool). wanted_in (added up item v)) none ∙ added_by false (λ (row : Row). false) (no_such v)

  item_by : (own is_root known parent : Bool) → bytes_eq item.parent.bus bus ≡ parent
      → wanted_in (cond own (cond is_root (change (is_path root) (renewed item) v) (cond known (moved (is_path item.object.path) (names bus item.parent) item v) (added (names bus item.parent) item v))) v)
      ≡ cond (cond own (cond is_root false (cond known false (cond parent (has (is_path item.parent.path) v) false))) false) new_part None
  item_by false is_root known parent e = nothing_in v h
  item_by true true known parent e = nothing_in _ (renewed_settled refused (is_path root) item v h)
  item_by true false true parent e = nothing_in _ (moved_settled refused (is_path item.object.path) (names bus item.parent) item v h)
  item_by true false false parent e = added_as parent e

  pub item_wanted : wanted_in (item_effect root bus item v)
      ≡ cond (adds root bus (find (is_path item.object.path) v) (has (is_path item.parent.path) v) item) new_part None
  item_wanted =
      item_by (bytes_eq item.object.bus bus) (bytes_eq item.object.path root) (has (is_path item.object.path) v) (bytes_eq item.parent.bus bus) refl
      ∙ ap (λ (known : Bool). cond (cond (bytes_eq item.object.bus bus) (cond (bytes_eq item.object.path root) false (cond known false (cond (bytes_eq item.parent.bus bus) (has (is_path item.parent.path) v) false))) false) new_part None)
      (sym (found_has (is_path item.object.path) v))

-- nothing is wanted of a held application that needs no loading and has no unknown part
pub settled : (app : Followed) (v : Forest Row) → app.view ≡ Some v → wishes_of app ≡ [] → (app.reload ≡ false) × EachLabel (IsSettled app.refused) v
settled app v e w = by app.reload refl
  where
    by : (r : Bool) → app.reload ≡ r → (app.reload ≡ false) × EachLabel (IsSettled app.refused) v
    by true f = let z : wishes_of app ≡ GetItems app.name ∷ [] = rw (e, f) refl in absurd cc
    by false f =
        (f, each_of_labels (IsSettled app.refused) v (all_settled app.refused (labels v) (none_mapped (part_question app.name) _ (sym (first_held app v e f) ∙ ap first w))))

-- after a news
abbrev pub after_news : Followed → Forest Row → News → Followed
after_news app v news = record app {
  view = Some (effect app.root app.name v news);
  reload = app.reload || marks_reload v news;
  refused = still_refused v news app.refused;
}

module _ (app : Followed) (v : Forest Row) (f : app.reload ≡ false) where
  cond_questions : (b : Bool) (path : List ℕ) (o : Option PartName)
      → option_map (part_question app.name) (cond b (option_map (λ (part : PartName). (path, part)) o) None) ≡ cond b (option_map (GetPart app.name path) o) None
  cond_questions true path None = refl
  cond_questions true path (Some part) = refl
  cond_questions false path o = refl

  -- after an item, with more that is refused: of the row that it adds no part was refused before
  module _ (item : Item) (more : List (List ℕ × PartName)) where
    abbrev is_new : Bool
    is_new = adds app.root app.name (find (is_path item.object.path) v) (has (is_path item.parent.path) v) item

    abbrev then_refused : List (List ℕ × PartName)
    then_refused = still_refused v (NewItem item) app.refused ++ more

    where_new : (b : Bool) → is_new ≡ b
        → cond b (option_map (GetPart app.name item.object.path) (first_part then_refused (fresh item))) None
        ≡ cond b (option_map (GetPart app.name item.object.path) (first_part more (fresh item))) None
    where_new true e = ap (option_map (GetPart app.name item.object.path)) (fresh_still v item app.refused more (adds_new app.root app.name v (has (is_path item.parent.path) v) item e))
    where_new false e = refl

    pub item_after : EachLabel (IsSettled (app.refused ++ more)) v
        → first (wishes_of (refusing more (after_news app v (NewItem item)))) ≡ cond is_new (option_map (GetPart app.name item.object.path) (first_part more (fresh item))) None
    item_after h =
        first_held (refusing more (after_news app v (NewItem item))) (item_effect app.root app.name item v) refl (rw f refl)
        ∙ ap (option_map (part_question app.name)) (item_wanted then_refused app.root app.name item v (settled_still v item app.refused more h))
        ∙ cond_questions is_new item.object.path (first_part then_refused (fresh item))
        ∙ where_new is_new refl

  module _ (h : EachLabel (IsSettled app.refused) v) where
    no_more : (news : News) → marks_reload v news ≡ false → AddsNone news → still_refused v news app.refused ≡ app.refused → first (wishes_of (after_news app v news)) ≡ None
    no_more news m none same =
        first_held (after_news app v news) (effect app.root app.name v news) refl (rw (f, m) refl)
        ∙ ap (λ (r : List (List ℕ × PartName)). option_map (part_question app.name) (first_wanted r (labels (effect app.root app.name v news)))) same
        ∙ ap (option_map (part_question app.name)) (none_wanted app.refused _ (each_labels (IsSettled app.refused) _ (effect_settled app.refused app.root app.name v h news none)))

    child_by : (child : List ℕ) (b : Bool) → has (is_path child) v ≡ b → first (wishes_of (after_news app v (ChildAdded child))) ≡ cond b None (Some (GetItems app.name))
    child_by child true e = no_more (ChildAdded child) (rw e refl) tt refl
    child_by child false e = rw (f, e) refl

    pub news_wanted : (news : News) → first (wishes_of (after_news app v news)) ≡ wish_at app v news
    news_wanted (NewItem item) =
        ap (λ (r : List (List ℕ × PartName)). first (wishes_of (record (after_news app v (NewItem item)) { refused = r }))) (sym (append-nil (still_refused v (NewItem item) app.refused)))
        ∙ item_after item [] (subst (λ (r : List (List ℕ × PartName)). EachLabel (IsSettled r) v) (sym (append-nil app.refused)) h)
    news_wanted (Removed path) = no_more (Removed path) refl tt refl
    news_wanted (ChildAdded child) = child_by child (has (is_path child) v) refl
    news_wanted (ChildRemoved p i child) = no_more (ChildRemoved p i child) refl tt refl
    news_wanted (Name p x) = no_more (Name p x) refl tt refl
    news_wanted (Description p x) = no_more (Description p x) refl tt refl
    news_wanted (Role p x) = no_more (Role p x) refl tt refl
    news_wanted (State p s on) = no_more (State p s on) refl tt refl
    news_wanted (Inserted p at x) = no_more (Inserted p at x) refl tt refl
    news_wanted (Deleted p at n x) = no_more (Deleted p at n x) refl tt refl
    news_wanted (Caret p at) = no_more (Caret p at) refl tt refl
    news_wanted (TextIs p x) = no_more (TextIs p x) refl tt refl
    news_wanted (CaretIs p at) = no_more (CaretIs p at) refl tt refl
    news_wanted (ColumnsIs p n) = no_more (ColumnsIs p n) refl tt refl
    news_wanted Nothing = no_more Nothing refl tt refl

pub news_wish_is : (app : Followed) (v : Forest Row) (news : News) → app.view ≡ Some v → wishes_of app ≡ [] → wish_at app v news ≡ first (wishes_of (folded news app))
news_wish_is app v news e w =
    let s = settled app v e w in
    let same : folded news app ≡ after_news app v news = rw e refl in
    sym (ap (λ (a : Followed). first (wishes_of a)) same ∙ news_wanted app v s.0 s.1 news)
