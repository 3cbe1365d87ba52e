-- How the list of what is wanted follows news, parts that are told or refused, and a load.
use Rattle.std.proofs.Common.{◌≡◌, ℕ, Bool, true, false, cond, not, List, [], ◌∷◌, ◌++◌, drop, map, Option, Some, None, refl, sym, ap, subst, ◌∙◌}
use Rattle.std.specs.declared.alloc.Global.{Global}
use Rattle.std.specs.Prelude.{ℤ, pos, negsuc, ◌||◌, Vec, Result, Ok, Err, IfOk, IsOkAnd}
use Rattle.atspi_base.specs.declared.outside.NoMemory.{NoMemory}
use Rattle.std.specs.Option.{option_map}
use Rattle.std.specs.Ordering.{nat_cmp}
use Rattle.std.specs.FinMap.{empty, get-empty}
use Rattle.std.proofs.lemmas.List.{append_assoc}
use Rattle.atspi_tree_model.specs.declared.view.Row.{Row}
use Rattle.atspi_tree_model.specs.declared.news.Item.{Item}
use Rattle.atspi_tree_model.specs.declared.news.News.{News}
use Rattle.atspi_tree_model.specs.declared.news.News.TheVariants.{Removed, ChildAdded, ChildRemoved, Name, Description, Role, State, Inserted, Deleted, Caret, TextIs, CaretIs, ColumnsIs, Nothing, Item as NewItem}
use Rattle.atspi_tree_model.specs.Forest.{Forest, labels, has, find}
use Rattle.atspi_tree_model.specs.News.{is_path, effect, fresh, load, marks_reload}
use Rattle.atspi_tree_model.proofs.NewsKept.{once_after}
use Rattle.atspi_tree_model.proofs.Once.{load_once}
use Rattle.atspi_cache_arena.specs.Sights.{Sight, sights}
use Rattle.atspi_speech.specs.Looked.{adds}
use Rattle.atspi_cache.specs.Cache.{View, Views, told}
use Rattle.atspi_protocol.specs.declared.news.part.PartName.{PartName}
use Rattle.atspi_protocol.specs.declared.news.part.PartName.TheVariants.{Text as TextPart, Caret as CaretPart, Columns as ColumnsPart}
use Rattle.atspi_protocol.specs.declared.following.question.Question.TheVariants.{GetPart}
use Rattle.atspi_protocol.specs.following.ReaderState.{Followed}
use Rattle.atspi_protocol.specs.following.Replied.{refused_part, told_part}
use Rattle.atspi_protocol.specs.following.Takes.{folded, noted, still_refused}
use Rattle.atspi_protocol.specs.following.Wishes.{wishes_of}
use Rattle.atspi_reader_known.specs.Kept.{kept}
use Rattle.atspi_reader_known.specs.Wanted.{first, first_part, part_question, refusing, wish_at}
use Rattle.atspi_reader_known.specs.Listed as listed
use Rattle.atspi_reader_known.specs.Listed.{all_wants, begins_with, follows, fresh_wants, is_same, left, or_others, row_wants, tells_first, AreOnce, IsListing, IsOnce}
use Rattle.atspi_reader_known.proofs.Cached.{app_of}
use Rattle.atspi_reader_known.proofs.Firsts.{none_first}
use Rattle.atspi_reader_known.proofs.Found.{shown}
use Rattle.atspi_reader_known.proofs.Listed.{first_row, left_gone, left_row, once_row, once_view, refused_before, refused_behind, same_want, wanted_left, with_path}
use Rattle.atspi_reader_known.proofs.Names.{told_name}
use Rattle.atspi_reader_known.proofs.News.{after_news, item_after, settled}
use Rattle.atspi_reader_known.proofs.Quiet.{IsQuiet, quiet_wanted}
use Rattle.atspi_reader_known.proofs.Rows.{first_held, row_of_sight, rows_shown}
use Rattle.atspi_reader_known.proofs.Settled.{folded_settled, noted_wishes}
use Rattle.atspi_reader_known.proofs.Tells.{IsPart}
use Rattle.atspi_reader_known.proofs.Told.{part_settled}

-- what is kept: each path of it stands once
pub once_told : (news : News) (o : Option View) → IsOnce o → IsOnce (option_map (told news) o)
once_told news None k = k
once_told news (Some v) k = once_after v.root v.bus v.rows news k

pub once_loaded : (o : Option View) (root bus name : List ℕ) (items : List Item) → o ≡ Some (record { bus = name; root = root; rows = load root bus items }) → IsOnce o
once_loaded o root bus name items e = subst IsOnce (sym e) (load_once root bus items)

pub once_nothing : (w : Views) → w ≡ empty → IsOnce (kept w)
once_nothing w e = subst IsOnce (sym (ap kept e ∙ get-empty nat_cmp 0)) tt

-- a walk lists what is wanted
pub listed_of : (o : Option View) (rows : List Sight) (refused : List (List ℕ × PartName)) (name root : List ℕ) (last : ℕ)
    → option_map (λ (v : View). sights v.rows) o ≡ Some rows → IsOnce o → IsListing (all_wants refused (map row_of_sight rows)) (app_of name root o false last refused)
listed_of None rows refused name root last e k = absurd cc
listed_of (Some v) rows refused name root last e k =
    let same : all_wants refused (map row_of_sight rows) ≡ all_wants refused (labels v.rows) =
    ap (λ (rs : List Sight). all_wants refused (map row_of_sight rs)) (shown (Some v) rows e).2 ∙ ap (all_wants refused) (there (shown (Some v) rows e).0 (shown (Some v) rows e).1) in
    subst (λ (ws : List (List ℕ × PartName)). IsListing ws (app_of name root (Some v) false last refused)) (sym same) (record {
      once = once_view refused v.rows k;
      wanted = λ more. first_held (refusing more (app_of name root (Some v) false last refused)) v.rows refl refl ∙ ap (option_map (part_question name)) (wanted_left refused more (labels v.rows));
    })
  where
    there : (f : Forest Row) → Some v.rows ≡ Some f → map row_of_sight (sights f) ≡ labels v.rows
    there f e = rows_shown f ∙ ap labels (same_some (sym e))
      where
        same_some : {A : Type 0} {x y : A} → Some x ≡ Some y → x ≡ y
        same_some e = cc

-- a serial that is noted
pub noted_listed : (serial : ℕ) (wants : List (List ℕ × PartName)) (app : Followed) → IsListing wants app → IsListing wants (noted serial app)
noted_listed serial wants app l = record {
  once = l.once;
  wanted = λ more. ap first (noted_wishes serial (refusing more app)) ∙ l.wanted more;
}

-- the first part was refused
pub refused_listed : (wants : List (List ℕ × PartName)) (path : List ℕ) (part : PartName) (app : Followed) → begins_with wants (path, part) ≡ true
    → IsListing wants app → IsListing (drop 1 wants) (refused_part path part app)
refused_listed [] path part app b l = absurd cc
refused_listed (want ∷ wants) path part app b l =
    let same = same_want want (path, part) b in
    record {
      once = l.once.1;
      wanted = λ more.
          ap (λ (r : List (List ℕ × PartName)). first (wishes_of (record app { refused = r })))
          (append_assoc app.refused ((path, part) ∷ []) more ∙ ap (λ (w : List ℕ × PartName). app.refused ++ w ∷ more) (sym same))
          ∙ l.wanted (want ∷ more)
          ∙ ap (λ (ws : List (List ℕ × PartName)). option_map (part_question app.name) (first ws)) (left_gone want wants more (want ∷ more) (refused_before more want) l.once);
    }

-- the first part was told
told_refusing : (more : List (List ℕ × PartName)) (news : News) (app : Followed) → refusing more (told_part news app) ≡ told_part news (refusing more app)
told_refusing more news app = by app.view refl
  where
    by : (o : Option (Forest Row)) → app.view ≡ o → refusing more (told_part news app) ≡ told_part news (refusing more app)
    by None e = rw e refl
    by (Some v) e = rw e refl

part_listed : (wants : List (List ℕ × PartName)) (path : List ℕ) (part : PartName) (news : News) (app : Followed) → begins_with wants (path, part) ≡ true
    → IsPart part path news → IsListing wants app → IsListing (drop 1 wants) (told_part news app)
part_listed [] path part news app b t l = absurd cc
part_listed (want ∷ wants) path part news app b t l =
    let same = same_want want (path, part) b in
    record {
      once = l.once.1;
      wanted = λ more.
          ap (λ (a : Followed). first (wishes_of a)) (told_refusing more news app)
          ∙ part_settled path part news t (refusing more app)
          ∙ ap (λ (r : List (List ℕ × PartName)). first (wishes_of (record app { refused = r })))
          (append_assoc app.refused more ((path, part) ∷ []) ∙ ap (λ (w : List ℕ × PartName). app.refused ++ (more ++ w ∷ [])) (sym same))
          ∙ l.wanted (more ++ want ∷ [])
          ∙ ap (λ (ws : List (List ℕ × PartName)). option_map (part_question app.name) (first ws)) (left_gone want wants more (more ++ want ∷ []) (refused_behind more want) l.once)
          ∙ ap (λ (n : List ℕ). option_map (part_question n) (first (left more wants))) (sym (told_name news app));
    }

pub told_listed : (wants : List (List ℕ × PartName)) (news : News) (app : Followed) → tells_first wants news ≡ true → IsListing wants app → IsListing (drop 1 wants) (told_part news app)
told_listed wants (TextIs p x) app b l = part_listed wants p TextPart (TextIs p x) app b (x, refl) l
told_listed wants (CaretIs p (pos n)) app b l = part_listed wants p CaretPart (CaretIs p (pos n)) app b (n, refl) l
told_listed wants (CaretIs p (negsuc n)) app b l = absurd cc
told_listed wants (ColumnsIs p (pos n)) app b l = part_listed wants p ColumnsPart (ColumnsIs p (pos n)) app b (n, refl) l
told_listed wants (ColumnsIs p (negsuc n)) app b l = absurd cc
told_listed wants (NewItem item) app b l = absurd cc
told_listed wants (Removed p) app b l = absurd cc
told_listed wants (ChildAdded child) app b l = absurd cc
told_listed wants (ChildRemoved p i child) app b l = absurd cc
told_listed wants (Name p x) app b l = absurd cc
told_listed wants (Description p x) app b l = absurd cc
told_listed wants (Role p x) app b l = absurd cc
told_listed wants (State p s on) app b l = absurd cc
told_listed wants (Inserted p at x) app b l = absurd cc
told_listed wants (Deleted p at n x) app b l = absurd cc
told_listed wants (Caret p at) app b l = absurd cc
told_listed wants Nothing app b l = absurd cc

pub others_tell : (wants : List (List ℕ × PartName)) (news : News) → ((path text : List ℕ) → news ≡ TextIs path text → ⊥) → ((path : List ℕ) (at : ℤ) → news ≡ CaretIs path at → ⊥)
    → ((path : List ℕ) (count : ℤ) → news ≡ ColumnsIs path count → ⊥) → false ≡ tells_first wants news
others_tell wants (TextIs p t) x y z = absurd (x p t refl)
others_tell wants (CaretIs p at) x y z = absurd (y p at refl)
others_tell wants (ColumnsIs p m) x y z = absurd (z p m refl)
others_tell wants (NewItem item) x y z = refl
others_tell wants (Removed p) x y z = refl
others_tell wants (ChildAdded child) x y z = refl
others_tell wants (ChildRemoved p i child) x y z = refl
others_tell wants (Name p t) x y z = refl
others_tell wants (Description p t) x y z = refl
others_tell wants (Role p n) x y z = refl
others_tell wants (State p s on) x y z = refl
others_tell wants (Inserted p at t) x y z = refl
others_tell wants (Deleted p at m t) x y z = refl
others_tell wants (Caret p at) x y z = refl
others_tell wants Nothing x y z = refl

-- news of which what is refused stays as it is
folded_refusing : (more : List (List ℕ × PartName)) (news : News) (app : Followed)
    → ((view : Forest Row) (refused : List (List ℕ × PartName)) → still_refused view news refused ≡ refused)
    → refusing more (folded news app) ≡ folded news (refusing more app)
folded_refusing more news app same = by app.view refl
  where
    by : (o : Option (Forest Row)) → app.view ≡ o → refusing more (folded news app) ≡ folded news (refusing more app)
    by None e = rw e refl
    by (Some v) e = rw (e, same v app.refused, same v (app.refused ++ more)) refl

folded_name : (news : News) (app : Followed) → app.name ≡ (folded news app).name
folded_name news app = by app.view refl
  where
    by : (o : Option (Forest Row)) → app.view ≡ o → app.name ≡ (folded news app).name
    by None e = rw e refl
    by (Some v) e = rw e refl

module _ (app : Followed) (v : Forest Row) (news : News) (e : app.view ≡ Some v) where
  -- where nothing was wanted
  settled_listed : IsListing [] app → ((view : Forest Row) (refused : List (List ℕ × PartName)) → still_refused view news refused ≡ refused)
      → ((a : Followed) (view : Forest Row) → wish_at a view news ≡ None) → IsListing [] (folded news app)
  settled_listed l same none = record {
    once = tt;
    wanted = λ more.
        ap (λ (a : Followed). first (wishes_of a)) (folded_refusing more news app same)
        ∙ ap first (folded_settled (refusing more app) news (none_first (wishes_of (refusing more app)) (l.wanted more)) none);
  }

  -- where no unknown part changes
  quiet_first : (more : List (List ℕ × PartName)) → IsQuiet news → still_refused v news (app.refused ++ more) ≡ app.refused ++ more → marks_reload v news ≡ false
      → first (wishes_of (folded news (refusing more app))) ≡ first (wishes_of (refusing more app))
  quiet_first more q same m = by app.reload refl
    where
      after : Followed
      after = record app { view = Some (effect app.root app.name v news); reload = app.reload || marks_reload v news; refused = app.refused ++ more }

      is_after : folded news (refusing more app) ≡ after
      is_after = rw (e, same) refl

      by : (r : Bool) → app.reload ≡ r → first (wishes_of (folded news (refusing more app))) ≡ first (wishes_of (refusing more app))
      by true f = rw (e, f) refl
      by false f =
          ap (λ (a : Followed). first (wishes_of a)) is_after
          ∙ first_held after (effect app.root app.name v news) refl (ap (λ (r : Bool). r || marks_reload v news) f ∙ m)
          ∙ ap (option_map (part_question app.name)) (quiet_wanted (app.refused ++ more) app.root app.name v news q)
          ∙ sym (first_held (refusing more app) v e f)

  quiet_listed : (wants : List (List ℕ × PartName)) → IsListing wants app → IsQuiet news → ((view : Forest Row) (refused : List (List ℕ × PartName)) → still_refused view news refused ≡ refused)
      → marks_reload v news ≡ false → IsListing wants (folded news app)
  quiet_listed wants l q same m = record {
    once = l.once;
    wanted = λ more.
        ap (λ (a : Followed). first (wishes_of a)) (folded_refusing more news app same) ∙ quiet_first more q (same v (app.refused ++ more)) m ∙ l.wanted more
        ∙ ap (λ (n : List ℕ). option_map (part_question n) (first (left more wants))) (folded_name news app);
  }

-- an item
module _ (app : Followed) (v : Forest Row) (item : Item) (e : app.view ≡ Some v) (l : IsListing [] app) where
  abbrev is_new : Bool
  is_new = adds app.root app.name (find (is_path item.object.path) v) (has (is_path item.parent.path) v) item

  abbrev those : Bool → List (List ℕ × PartName)
  those b = cond b (row_wants [] (fresh item)) []

  twice : (o : Option PartName) → option_map (GetPart app.name item.object.path) o ≡ option_map (part_question app.name) (option_map (with_path item.object.path) o)
  twice None = refl
  twice (Some part) = refl

  item_first : (more : List (List ℕ × PartName)) (b : Bool)
      → cond b (option_map (GetPart app.name item.object.path) (first_part more (fresh item))) None ≡ option_map (part_question app.name) (first (left more (those b)))
  item_first more true =
      twice (first_part more (fresh item))
      ∙ ap (option_map (part_question app.name)) (sym (first_row more (fresh item)) ∙ ap first (left_row [] more (fresh item)))
  item_first more false = refl

  once_those : (b : Bool) → AreOnce (those b)
  once_those true = once_row [] (fresh item)
  once_those false = tt

  then_wanted : (more : List (List ℕ × PartName))
      → first (wishes_of (refusing more (folded (NewItem item) app))) ≡ cond is_new (option_map (GetPart app.name item.object.path) (first_part more (fresh item))) None
  then_wanted more =
      let s = settled (refusing more app) v e (none_first (wishes_of (refusing more app)) (l.wanted more)) in
      let same : folded (NewItem item) app ≡ after_news app v (NewItem item) = rw e refl in
      ap (λ (a : Followed). first (wishes_of (refusing more a))) same ∙ item_after app v s.0 item more s.1

  item_listed : IsListing (those is_new) (folded (NewItem item) app)
  item_listed = record {
    once = once_those is_new;
    wanted = λ more.
        then_wanted more
        ∙ item_first more is_new
        ∙ ap (λ (n : List ℕ). option_map (part_question n) (first (left more (those is_new)))) (folded_name (NewItem item) app);
  }

or_nothing : (wants : List (List ℕ × PartName)) → or_others wants [] ≡ wants
or_nothing [] = refl
or_nothing (want ∷ wants) = refl

none_left : (wants : List (List ℕ × PartName)) → listed.is_empty wants ≡ true → wants ≡ []
none_left [] e = refl
none_left (want ∷ wants) e = absurd cc

no_reload : (b : Bool) → b ≡ true → not b ≡ false
no_reload true e = refl
no_reload false e = absurd cc

pub folded_listed : (app : Followed) (v : Forest Row) (news : News) (wants : List (List ℕ × PartName)) → app.view ≡ Some v → IsListing wants app → follows wants v news ≡ true
    → IsListing (or_others (fresh_wants app v news) wants) (folded news app)
folded_listed app v (NewItem item) wants e l f =
    let none = none_left wants f in
    subst (λ (ws : List (List ℕ × PartName)). IsListing ws (folded (NewItem item) app)) (sym (ap (or_others (fresh_wants app v (NewItem item))) none ∙ or_nothing (fresh_wants app v (NewItem item))))
    (item_listed app v item e (subst (λ (ws : List (List ℕ × PartName)). IsListing ws app) none l))
folded_listed app v (Removed path) [] e l f = settled_listed app v (Removed path) e l (λ view refused. refl) (λ a view. refl)
folded_listed app v (Removed path) (want ∷ wants) e l f = absurd cc
folded_listed app v (ChildRemoved p i child) [] e l f = settled_listed app v (ChildRemoved p i child) e l (λ view refused. refl) (λ a view. refl)
folded_listed app v (ChildRemoved p i child) (want ∷ wants) e l f = absurd cc
folded_listed app v (TextIs p x) [] e l f = settled_listed app v (TextIs p x) e l (λ view refused. refl) (λ a view. refl)
folded_listed app v (TextIs p x) (want ∷ wants) e l f = absurd cc
folded_listed app v (CaretIs p at) [] e l f = settled_listed app v (CaretIs p at) e l (λ view refused. refl) (λ a view. refl)
folded_listed app v (CaretIs p at) (want ∷ wants) e l f = absurd cc
folded_listed app v (ColumnsIs p n) [] e l f = settled_listed app v (ColumnsIs p n) e l (λ view refused. refl) (λ a view. refl)
folded_listed app v (ColumnsIs p n) (want ∷ wants) e l f = absurd cc
folded_listed app v (ChildAdded child) wants e l f = quiet_listed app v (ChildAdded child) e wants l tt (λ view refused. refl) (no_reload (has (is_path child) v) f)
folded_listed app v (Name p x) wants e l f = quiet_listed app v (Name p x) e wants l tt (λ view refused. refl) refl
folded_listed app v (Description p x) wants e l f = quiet_listed app v (Description p x) e wants l tt (λ view refused. refl) refl
folded_listed app v (Role p x) wants e l f = quiet_listed app v (Role p x) e wants l tt (λ view refused. refl) refl
folded_listed app v (State p s on) wants e l f = quiet_listed app v (State p s on) e wants l tt (λ view refused. refl) refl
folded_listed app v (Inserted p at x) wants e l f = quiet_listed app v (Inserted p at x) e wants l tt (λ view refused. refl) refl
folded_listed app v (Deleted p at n x) wants e l f = quiet_listed app v (Deleted p at n x) e wants l tt (λ view refused. refl) refl
folded_listed app v (Caret p at) wants e l f = quiet_listed app v (Caret p at) e wants l tt (λ view refused. refl) refl
folded_listed app v Nothing wants e l f = quiet_listed app v Nothing e wants l tt (λ view refused. refl) refl

-- what was listed is put in place
pub listed_put : (r : Result (Vec (List ℕ × PartName) Global) NoMemory) (new those : List (List ℕ × PartName)) → IfOk r (λ wants. wants.items ≡ those)
    → IsOkAnd r (λ wants. new ≡ wants.items) → new ≡ those
listed_put (Ok wants) new those same put = put ∙ same
listed_put (Err fault) new those same put = absurd put

-- the parts of an added node are put in place
pub fresh_put : (r : Result (List (List ℕ × PartName)) NoMemory) (new old those : List (List ℕ × PartName)) → IfOk r (λ others. others ≡ those)
    → IsOkAnd r (λ others. new ≡ or_others others old) → new ≡ or_others those old
fresh_put (Ok others) new old those same put = put ∙ ap (λ (l : List (List ℕ × PartName)). or_others l old) same
fresh_put (Err fault) new old those same put = absurd put

-- news of which the code makes no case
pub others_follow : (wants : List (List ℕ × PartName)) (v : Forest Row) (news : News)
    → ((child : List ℕ) → news ≡ ChildAdded child → ⊥) → ((item : Item) → news ≡ NewItem item → ⊥) → ((path : List ℕ) → news ≡ Removed path → ⊥)
    → ((parent : List ℕ) (index : ℤ) (child : List ℕ) → news ≡ ChildRemoved parent index child → ⊥)
    → ((path text : List ℕ) → news ≡ TextIs path text → ⊥) → ((path : List ℕ) (at : ℤ) → news ≡ CaretIs path at → ⊥) → ((path : List ℕ) (count : ℤ) → news ≡ ColumnsIs path count → ⊥)
    → true ≡ follows wants v news
others_follow wants v (NewItem item) a b c d x y z = absurd (b item refl)
others_follow wants v (Removed path) a b c d x y z = absurd (c path refl)
others_follow wants v (ChildAdded child) a b c d x y z = absurd (a child refl)
others_follow wants v (ChildRemoved p i child) a b c d x y z = absurd (d p i child refl)
others_follow wants v (Name p t) a b c d x y z = refl
others_follow wants v (Description p t) a b c d x y z = refl
others_follow wants v (Role p n) a b c d x y z = refl
others_follow wants v (State p s on) a b c d x y z = refl
others_follow wants v (Inserted p at t) a b c d x y z = refl
others_follow wants v (Deleted p at m t) a b c d x y z = refl
others_follow wants v (Caret p at) a b c d x y z = refl
others_follow wants v (TextIs p t) a b c d x y z = absurd (x p t refl)
others_follow wants v (CaretIs p at) a b c d x y z = absurd (y p at refl)
others_follow wants v (ColumnsIs p m) a b c d x y z = absurd (z p m refl)
others_follow wants v Nothing a b c d x y z = refl

pub others_add : (app : Followed) (v : Forest Row) (news : News) → ((item : Item) → news ≡ NewItem item → ⊥) → fresh_wants app v news ≡ []
others_add app v (NewItem item) n = absurd (n item refl)
others_add app v (Removed path) n = refl
others_add app v (ChildAdded child) n = refl
others_add app v (ChildRemoved p i child) n = refl
others_add app v (Name p x) n = refl
others_add app v (Description p x) n = refl
others_add app v (Role p x) n = refl
others_add app v (State p s on) n = refl
others_add app v (Inserted p at x) n = refl
others_add app v (Deleted p at m x) n = refl
others_add app v (Caret p at) n = refl
others_add app v (TextIs p x) n = refl
others_add app v (CaretIs p at) n = refl
others_add app v (ColumnsIs p m) n = refl
others_add app v Nothing n = refl
