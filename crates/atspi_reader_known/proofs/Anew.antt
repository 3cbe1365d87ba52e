-- What stays refused where an item comes: of a path that has no row no part, and of each other path what was.
use Rattle.std.proofs.Common.{◌≡◌, ℕ, Bool, true, false, cond, not, List, [], ◌∷◌, ◌++◌, refl, sym, ap, ◌∙◌}
use Rattle.std.specs.Prelude.{◌||◌, ◌&&◌, bytes_eq, is_some, if◌then◌else◌}
use Rattle.std.proofs.lemmas.Slice.Eq.{bytes_eq-Decides}
use Rattle.std.proofs.lemmas.List.Folds.{list_any-append}
use Rattle.atspi_tree_model.specs.declared.view.Row.{Row}
use Rattle.atspi_tree_model.specs.declared.news.Item.{Item}
use Rattle.atspi_tree_model.specs.declared.news.News.{News}
use Rattle.atspi_tree_model.specs.declared.news.News.TheVariants.{Removed, ChildAdded, ChildRemoved, Name, Description, Role, State, Inserted, Deleted, Caret as CaretMoved, TextIs, CaretIs, ColumnsIs, Nothing, Item as NewItem}
use Rattle.atspi_tree_model.specs.Forest.{Forest, nil, tree, has, find, EachLabel}
use Rattle.atspi_tree_model.specs.News.{is_path, fresh}
use Rattle.atspi_cache.proofs.Effects.{found_has}
use Rattle.atspi_speech.specs.Looked.{adds}
use Rattle.atspi_protocol.specs.declared.news.part.PartName.{PartName}
use Rattle.atspi_protocol.specs.declared.news.part.PartName.TheVariants.{Text, Caret, Columns}
use Rattle.atspi_protocol.specs.following.Takes.{still_refused}
use Rattle.atspi_protocol.specs.following.Wishes.{is_refused, of_others, same_part}
use Rattle.atspi_reader_known.specs.Wanted.{first_part}
use Rattle.atspi_reader_known.proofs.Fewer.{IsSettled}

module _ (path : List ℕ) where
  -- of another path what was
  pub others_same : (refused : List (List ℕ × PartName)) (q : List ℕ) (part : PartName) → bytes_eq q path ≡ false
      → is_refused (of_others path refused) q part ≡ is_refused refused q part
  others_same [] q part e = refl
  others_same (r ∷ rs) q part e = by (bytes_eq r.0 path) refl (others_same rs q part e)
    where
      apart : (b : Bool) → bytes_eq r.0 q ≡ b → bytes_eq r.0 path ≡ true → b ≡ false
      apart true same here =
          let z : bytes_eq q path ≡ true = ap (λ (p : List ℕ). bytes_eq p path) (sym ((bytes_eq-Decides r.0 q).0 same)) ∙ here in
          absurd cc
      apart false same here = refl

      by : (b : Bool) → bytes_eq r.0 path ≡ b → is_refused (of_others path rs) q part ≡ is_refused rs q part
          → is_refused (cond (not b) (r ∷ of_others path rs) (of_others path rs)) q part ≡ ((bytes_eq r.0 q && same_part r.1 part) || is_refused rs q part)
      by true here rest = rest ∙ sym (ap (λ (b : Bool). (b && same_part r.1 part) || is_refused rs q part) (apart (bytes_eq r.0 q) refl here))
      by false here rest = ap (λ (b : Bool). (bytes_eq r.0 q && same_part r.1 part) || b) rest

  -- of this path none
  pub none_of : (refused : List (List ℕ × PartName)) (part : PartName) → is_refused (of_others path refused) path part ≡ false
  none_of [] part = refl
  none_of (r ∷ rs) part = by (bytes_eq r.0 path) refl (none_of rs part)
    where
      by : (b : Bool) → bytes_eq r.0 path ≡ b → is_refused (of_others path rs) path part ≡ false
          → is_refused (cond (not b) (r ∷ of_others path rs) (of_others path rs)) path part ≡ false
      by true here rest = rest
      by false here rest = ap (λ (b : Bool). (b && same_part r.1 part) || is_refused (of_others path rs) path part) here ∙ rest

-- the first part of a row of which the same was refused
first_same : (refused other : List (List ℕ × PartName)) (row : Row) → ((part : PartName) → is_refused refused row.path part ≡ is_refused other row.path part)
    → first_part refused row ≡ first_part other row
first_same refused other row same = rw (same Text, same Caret, same Columns) refl

-- beside more that is refused
both_refused : (refused other more : List (List ℕ × PartName)) (path : List ℕ) (part : PartName) → is_refused refused path part ≡ is_refused other path part
    → is_refused (refused ++ more) path part ≡ is_refused (other ++ more) path part
both_refused refused other more path part e =
    list_any-append _ refused more ∙ ap (λ (b : Bool). b || is_refused more path part) e ∙ sym (list_any-append _ other more)

none_three : (a b c : Bool) → cond a true (cond b true c) ≡ false → (a ≡ false) × (b ≡ false) × (c ≡ false)
none_three true b c e = absurd cc
none_three false true c e = absurd cc
none_three false false c e = (refl, refl, e)

-- a view without a row of the path in which no part is wanted
settled_others : (path : List ℕ) (refused more : List (List ℕ × PartName)) (v : Forest Row) → EachLabel (IsSettled (refused ++ more)) v → has (is_path path) v ≡ false
    → EachLabel (IsSettled (of_others path refused ++ more)) v
settled_others path refused more nil h n = tt
settled_others path refused more (tree a c r) h n =
    let t = none_three (is_path path a) (has (is_path path) c) (has (is_path path) r) n in (
      first_same (of_others path refused ++ more) (refused ++ more) a
          (λ part. both_refused (of_others path refused) refused more a.path part (others_same path refused a.path part t.0))
          ∙ h.0,
      settled_others path refused more c h.1 t.1,
      settled_others path refused more r h.2 t.2,
    )

module _ (v : Forest Row) (item : Item) (refused : List (List ℕ × PartName)) where
  -- what stays refused where this item comes
  abbrev pub still : List (List ℕ × PartName)
  still = still_refused v (NewItem item) refused

  pub settled_still : (more : List (List ℕ × PartName)) → EachLabel (IsSettled (refused ++ more)) v → EachLabel (IsSettled (still ++ more)) v
  settled_still more h = by (has (is_path item.object.path) v) refl
    where
      by : (b : Bool) → has (is_path item.object.path) v ≡ b
          → EachLabel (IsSettled ((if b then refused else of_others item.object.path refused) ++ more)) v
      by true e = h
      by false e = settled_others item.object.path refused more v h e

  none_still : has (is_path item.object.path) v ≡ false → (part : PartName) → is_refused still item.object.path part ≡ false
  none_still e part =
      ap (λ (b : Bool). is_refused (if b then refused else of_others item.object.path refused) item.object.path part) e ∙ none_of item.object.path refused part

  -- of the row that it adds nothing but that
  pub fresh_still : (more : List (List ℕ × PartName)) → has (is_path item.object.path) v ≡ false → first_part (still ++ more) (fresh item) ≡ first_part more (fresh item)
  fresh_still more e = first_same (still ++ more) more (fresh item) (λ part. both_refused still [] more item.object.path part (none_still e part))

-- an item that adds a row comes to a path without one
pub adds_new : (root bus : List ℕ) (v : Forest Row) (p : Bool) (item : Item) → adds root bus (find (is_path item.object.path) v) p item ≡ true
    → has (is_path item.object.path) v ≡ false
adds_new root bus v p item e =
    sym (found_has (is_path item.object.path) v)
    ∙ by (bytes_eq item.object.bus bus) (bytes_eq item.object.path root) (is_some (find (is_path item.object.path) v)) (bytes_eq item.parent.bus bus) e
  where
    by : (own is_root known parent : Bool) → cond own (cond is_root false (cond known false (cond parent p false))) false ≡ true → known ≡ false
    by true false false parent e = refl
    by true false true parent e = absurd cc
    by true true known parent e = absurd cc
    by false is_root known parent e = absurd cc

-- news of no item refuse what was refused
pub others_stay : (v : Forest Row) (news : News) (refused : List (List ℕ × PartName)) → ((item : Item) → news ≡ NewItem item → ⊥) → refused ≡ still_refused v news refused
others_stay v (NewItem item) refused n = absurd (n item refl)
others_stay v (Removed path) refused n = refl
others_stay v (ChildAdded child) refused n = refl
others_stay v (ChildRemoved p i child) refused n = refl
others_stay v (Name p x) refused n = refl
others_stay v (Description p x) refused n = refl
others_stay v (Role p x) refused n = refl
others_stay v (State p s on) refused n = refl
others_stay v (Inserted p at x) refused n = refl
others_stay v (Deleted p at m x) refused n = refl
others_stay v (CaretMoved p at) refused n = refl
others_stay v (TextIs p x) refused n = refl
others_stay v (CaretIs p at) refused n = refl
others_stay v (ColumnsIs p m) refused n = refl
others_stay v Nothing refused n = refl
