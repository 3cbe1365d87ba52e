-- The answer to a reader's call for a part makes the view of a reader who was told that part.
use Rattle.std.proofs.Common.{◌≡◌, ℕ, Bool, true, false, cond, Option, Some, List, [], refl, sym, ap, ◌∙◌, subst}
use Rattle.std.specs.Prelude.{pos, negsuc, bytes_eq}
use Rattle.std.proofs.lemmas.Bool.{eqb-true}
use Rattle.atspi_tree_model.specs.declared.view.Part.TheVariants.{Known}
use Rattle.atspi_tree_model.specs.declared.view.NumPart.TheVariants.{Known as KnownNumber}
use Rattle.atspi_tree_model.specs.declared.view.Row.{Row}
use Rattle.atspi_tree_model.specs.declared.news.News.{News}
use Rattle.atspi_tree_model.specs.declared.news.News.TheVariants.{Removed, ChildAdded, ChildRemoved, Name, Description, Role, State, Inserted, Deleted, Caret, TextIs, CaretIs, ColumnsIs, Nothing, Item as NewItem}
use Rattle.atspi_tree_model.specs.Forest.{Forest, nil, tree, change, find}
use Rattle.atspi_tree_model.specs.Row.{TreeRow}
use Rattle.atspi_tree_model.specs.RowRules.{rows}
use Rattle.atspi_tree_model.specs.Tree.{is_node, IsTree}
use Rattle.atspi_tree_model.specs.Path.{path_of}
use Rattle.atspi_tree_model.specs.View.{Told, text_part, number_part, characters_of, caret_of, shown, view}
use Rattle.atspi_tree_model.specs.News.{is_path, told_text, told_number, effect, told_after}
use Rattle.atspi_tree_model.specs.Laws.{IsPartOf}
use Rattle.atspi_tree_model.proofs.Relabel.{relabel-learn}
use Rattle.atspi_tree_model.proofs.Found.{find-only, find-passes, EachLabel-weaker}
use Rattle.atspi_tree_model.proofs.Seen.{same_node, same_path}

text_told : (b : Bool) (x : List ℕ) → told_text x (text_part b (Some x)) ≡ Known x
text_told true x = refl
text_told false x = refl

number_told : (b : Bool) (x : ℕ) → told_number x (number_part b (Some x)) ≡ KnownNumber x
number_told true x = refl
number_told false x = refl

-- a change that leaves each row as it is
change_idle : (q : Row → Bool) (k : Row → Row) → ((row : Row) → k row ≡ row) → (v : Forest Row) → change q k v ≡ v
change_idle q k e nil = refl
change_idle q k e (tree a c r) = rw (at (q a), change_idle q k e c, change_idle q k e r) refl
  where
    at : (b : Bool) → cond b (k a) a ≡ a
    at true = e a
    at false = refl

-- a news that changes the row of one path, and what is told of that path alone
module _ (told told' : List ℕ → Told) (f : Forest TreeRow) (k : ℕ) (t : IsTree rows f k) (n : ℕ) (row : TreeRow) (e : find (is_node n) f ≡ Some row) (h : Row → Row) where
  learns : h (shown told row) ≡ shown told' row
      → ((path : List ℕ) → bytes_eq path (path_of n) ≡ false → told path ≡ told' path)
      → change (is_path (path_of n)) h (view told f) ≡ view told' f
  learns here other =
      relabel-learn (shown told) (shown told') (is_path (path_of n)) (is_node n) (same_node [] told n) h f
      (EachLabel-weaker (λ a. is_node n a ≡ true → a ≡ row) (λ a. is_node n a ≡ true → h (shown told a) ≡ shown told' a)
      (λ a w p. subst (λ x. h (shown told x) ≡ shown told' x) (sym (w p)) here) f (find-only (is_node n) f row (t.once n) e))
      (λ a p. ap (λ w. record (shown told a) { text = text_part w.text (shown_text a); caret = number_part w.caret (shown_caret a); columns = number_part w.columns a.contents.columns })
      (other (path_of a.shape.node) (same_node [] told n a ∙ p)))
    where
      shown_text : TreeRow → Option (List ℕ)
      shown_text a = characters_of a.contents.text

      shown_caret : TreeRow → Option ℕ
      shown_caret a = caret_of a.contents.text

passed_over : (told : List ℕ → Told) (n : ℕ) (w : Told → Told) (path : List ℕ) → bytes_eq path (path_of n) ≡ false
    → told path ≡ cond (bytes_eq path (path_of n)) (w (told path)) (told path)
passed_over told n w path p = rw p refl

pub part_seen : (bus : List ℕ) (told : List ℕ → Told) (f : Forest TreeRow) (k : ℕ) (news : News) → IsTree rows f k
    → IsPartOf f news
    → effect (path_of 0) bus (view told f) news ≡ view (told_after told news) f
part_seen bus told f k (TextIs p x) t (n, row, text, ep, e, et, ex) =
    rw (ep, ex) (learns told (told_after told (TextIs (path_of n) text.characters)) f k t n row e (λ r. record r { text = told_text text.characters r.text })
    (rw (at_row, et, same_path n, text_told (told (path_of n)).text text.characters) refl) (passed_over told n (λ w. record w { text = true })))
  where
    at_row : row.shape.node ≡ n
    at_row = eqb-true row.shape.node n (find-passes (is_node n) f row e).0
part_seen bus told f k (CaretIs p (negsuc m)) t h = change_idle (is_path p) (λ row. row) (λ row. refl) (view told f)
part_seen bus told f k (CaretIs p (pos at)) t (n, row, text, ep, e, et, ex) =
    rw (ep, ex) (learns told (told_after told (CaretIs (path_of n) (pos text.caret))) f k t n row e (λ r. record r { caret = told_number text.caret r.caret })
    (rw (at_row, et, same_path n, number_told (told (path_of n)).caret text.caret) refl) (passed_over told n (λ w. record w { caret = true })))
  where
    at_row : row.shape.node ≡ n
    at_row = eqb-true row.shape.node n (find-passes (is_node n) f row e).0
part_seen bus told f k (ColumnsIs p (negsuc m)) t h = change_idle (is_path p) (λ row. row) (λ row. refl) (view told f)
part_seen bus told f k (ColumnsIs p (pos m)) t (n, row, c, ep, e, et, ex) =
    rw (ep, ex) (learns told (told_after told (ColumnsIs (path_of n) (pos c))) f k t n row e (λ r. record r { columns = told_number c r.columns })
    (rw (at_row, et, same_path n, number_told (told (path_of n)).columns c) refl) (passed_over told n (λ w. record w { columns = true })))
  where
    at_row : row.shape.node ≡ n
    at_row = eqb-true row.shape.node n (find-passes (is_node n) f row e).0
part_seen bus told f k (NewItem item) t h = absurd h
part_seen bus told f k (Removed p) t h = absurd h
part_seen bus told f k (ChildAdded p) t h = absurd h
part_seen bus told f k (ChildRemoved p i c) t h = absurd h
part_seen bus told f k (Name p x) t h = absurd h
part_seen bus told f k (Description p x) t h = absurd h
part_seen bus told f k (Role p x) t h = absurd h
part_seen bus told f k (State p s on) t h = absurd h
part_seen bus told f k (Inserted p at x) t h = absurd h
part_seen bus told f k (Deleted p at n x) t h = absurd h
part_seen bus told f k (Caret p at) t h = absurd h
part_seen bus told f k Nothing t h = absurd h
