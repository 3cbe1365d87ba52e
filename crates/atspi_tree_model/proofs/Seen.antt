-- What a reader makes of an announcement is the view of the tree after the step, and the echoes change nothing.
use Rattle.std.proofs.Common.{◌≡◌, ℕ, zero, suc, ◌+◌, ◌*◌, ◌≤◌, Bool, true, false, cond, Option, Some, None, refl, sym, ap, ◌∙◌, subst, arith}
use Rattle.std.specs.Prelude.{map, is_some, List, [], ◌∷◌, ◌++◌, ◌==◌, ℤ, pos, length}
use Rattle.std.specs.Str.{bytes_eq}
use Rattle.std.proofs.lemmas.Slice.Eq.{bytes_eq-Decides}
use Rattle.std.proofs.lemmas.Bool.Decides.{same_from_decides, Decides-eqb, Decides-like}
use Rattle.std.proofs.lemmas.Bool.{eqb-true, eq-eqb, ne_eqb}
use Rattle.std.proofs.lemmas.List.{map-append}
use Rattle.atspi_tree_model.specs.declared.contents.Kinds.{Kinds}
use Rattle.atspi_tree_model.specs.declared.view.Part.TheVariants.{Known}
use Rattle.atspi_tree_model.specs.declared.view.NumPart.TheVariants.{Known as KnownNumber}
use Rattle.atspi_tree_model.specs.declared.view.Row.{Row}
use Rattle.atspi_tree_model.specs.declared.step.Seed.{Seed}
use Rattle.atspi_tree_model.specs.declared.step.Step.{Step}
use Rattle.atspi_tree_model.specs.declared.step.Step.TheVariants.{Add, Remove, Move, SetName, SetDescription, SetRole, SetState, Insert, Delete, Caret, TextSelect, Relate}
use Rattle.atspi_tree_model.specs.declared.news.Reference.{Reference}
use Rattle.atspi_tree_model.specs.declared.news.News.{News}
use Rattle.atspi_tree_model.specs.declared.news.News.TheVariants.{Removed, ChildAdded, Item as NewItem}
use Rattle.atspi_tree_model.specs.Forest.{Forest, nil, tree, labels, count, has, width, put_in, take_out, pick, first_of, find, place, children_at, EachLabel}
use Rattle.atspi_tree_model.specs.Row.{TextContents, TreeRow, on_some, insert_there, delete_there}
use Rattle.atspi_tree_model.specs.RowRules.{rows, first_text, after_insert, after_delete}
use Rattle.atspi_tree_model.specs.Tree.{is_node, in_subtree, after, seat_of, IsRooted, IsTree, Adds, Removes, Moves, Applies}
use Rattle.atspi_tree_model.specs.Path.{path_of}
use Rattle.atspi_tree_model.specs.View.{Told, text_part, number_part, characters_of, caret_of, kinds_number, shown, view}
use Rattle.atspi_tree_model.specs.News.{is_path, names, known_text_with, known_number_to, renewed, fresh, is_seat_at, seat_in, effect, marks_reload, unknown_text_if, unknown_number_if}
use Rattle.atspi_tree_model.specs.Announce.{own, item_of, removed_news, announcement, echoes, Idle}
use Rattle.atspi_tree_model.specs.Laws.{IsUntold, UntoldOfNew, IsSeen}
use Rattle.atspi_tree_model.proofs.Counts.{count-parts, count-put_in}
use Rattle.atspi_tree_model.proofs.Relabel.{Same, relabel-put_in, relabel-take_out, relabel-pick, has-relabel, relabel-change, relabel-unseen, unseen-change, renamed, place-relabel, count-relabel}
use Rattle.atspi_tree_model.proofs.Found.{not_there, count-has, has-count, find-has, find-passes, find-only, take_out-none, change-same, each_counted, EachLabel-weaker}
use Rattle.atspi_tree_model.proofs.Path.{path_of_apart}
use Rattle.atspi_tree_model.proofs.RowRules.{rows_sound}
use Rattle.atspi_tree_model.proofs.Kept.{count-move}
use Rattle.atspi_tree_model.proofs.Seats.{place-none, seat_of_moved}
use Rattle.atspi_tree_model.proofs.Interfaces.{kinds_read_back}

pub same_path : (n : ℕ) → bytes_eq (path_of n) (path_of n) ≡ true
same_path n = (bytes_eq-Decides (path_of n) (path_of n)).1 refl

pub not_path : (m n : ℕ) → (m ≡ n → ⊥) → bytes_eq (path_of m) (path_of n) ≡ false
not_path m n ne = at (bytes_eq (path_of m) (path_of n)) refl
  where
    at : (b : Bool) → bytes_eq (path_of m) (path_of n) ≡ b → bytes_eq (path_of m) (path_of n) ≡ false
    at true e = absurd (ne (path_of_apart m n ((bytes_eq-Decides (path_of m) (path_of n)).0 e)))
    at false e = e

-- a row counted by its own number
pub self : (row : TreeRow) → is_node row.shape.node row ≡ true
self row = eq-eqb row.shape.node row.shape.node refl

abbrev name_path : Option ℕ → Option (List ℕ)
name_path None = None
name_path (Some n) = Some (path_of n)

module _ (bus : List ℕ) (told : List ℕ → Told) where
  -- the reader's test for a path is the application's test for a number
  pub same_node : (n : ℕ) → Same (shown told) (is_path (path_of n)) (is_node n)
  same_node n row =
      same_from_decides (bytes_eq (path_of row.shape.node) (path_of n)) (row.shape.node == n)
      (bytes_eq-Decides (path_of row.shape.node) (path_of n))
      (Decides-like (row.shape.node == n) (λ e. ap path_of e) (path_of_apart row.shape.node n) (Decides-eqb row.shape.node n))

  same_bus : bytes_eq bus bus ≡ true
  same_bus = (bytes_eq-Decides bus bus).1 refl

  same_names : (n : ℕ) → Same (shown told) (names bus (own bus n)) (is_node n)
  same_names n row = rw same_bus (same_node n row)

  abbrev Takes : Forest TreeRow → News → Forest TreeRow → Type 0
  Takes f news g = effect (path_of 0) bus (view told f) news ≡ view told g

  takes_SetName : (f : Forest TreeRow) (n : ℕ) (x : List ℕ)
      → Takes f (announcement bus f (SetName n x)) (after rows f (SetName n x))
  takes_SetName f n x = relabel-change (shown told) (is_path (path_of n)) (is_node n) (same_node n) _ _ (λ row. refl) f

  takes_SetDescription : (f : Forest TreeRow) (n : ℕ) (x : List ℕ)
      → Takes f (announcement bus f (SetDescription n x)) (after rows f (SetDescription n x))
  takes_SetDescription f n x = relabel-change (shown told) (is_path (path_of n)) (is_node n) (same_node n) _ _ (λ row. refl) f

  takes_SetRole : (f : Forest TreeRow) (n x : ℕ)
      → Takes f (announcement bus f (SetRole n x)) (after rows f (SetRole n x))
  takes_SetRole f n x = relabel-change (shown told) (is_path (path_of n)) (is_node n) (same_node n) _ _ (λ row. refl) f

  takes_SetState : (f : Forest TreeRow) (n s : ℕ) (on : Bool)
      → Takes f (announcement bus f (SetState n s on)) (after rows f (SetState n s on))
  takes_SetState f n s on = relabel-change (shown told) (is_path (path_of n)) (is_node n) (same_node n) _ _ (λ row. refl) f

  -- a text that is changed and one that stays, and a caret
  text_changed : (b : Bool) (g : List ℕ → List ℕ) (w : TextContents → TextContents)
      → ((t : TextContents) → (w t).characters ≡ g t.characters) → (t : Option TextContents)
      → known_text_with g (text_part b (characters_of t)) ≡ text_part b (characters_of (on_some w t))
  text_changed true g w e None = refl
  text_changed false g w e None = refl
  text_changed true g w e (Some t) = ap Known (sym (e t))
  text_changed false g w e (Some t) = refl

  text_stays : (b : Bool) (w : TextContents → TextContents) → ((t : TextContents) → (w t).characters ≡ t.characters)
      → (t : Option TextContents)
      → text_part b (characters_of t) ≡ text_part b (characters_of (on_some w t))
  text_stays true w e None = refl
  text_stays false w e None = refl
  text_stays true w e (Some t) = ap Known (sym (e t))
  text_stays false w e (Some t) = refl

  caret_changed : (b : Bool) (n : ℕ) (w : TextContents → TextContents) → ((t : TextContents) → (w t).caret ≡ n)
      → (t : Option TextContents)
      → known_number_to n (number_part b (caret_of t)) ≡ number_part b (caret_of (on_some w t))
  caret_changed true n w e None = refl
  caret_changed false n w e None = refl
  caret_changed true n w e (Some t) = ap KnownNumber (sym (e t))
  caret_changed false n w e (Some t) = refl

  caret_stays : (b : Bool) (w : TextContents → TextContents) → ((t : TextContents) → (w t).caret ≡ t.caret)
      → (t : Option TextContents)
      → number_part b (caret_of t) ≡ number_part b (caret_of (on_some w t))
  caret_stays true w e None = refl
  caret_stays false w e None = refl
  caret_stays true w e (Some t) = ap KnownNumber (sym (e t))
  caret_stays false w e (Some t) = refl

  takes_Insert : (f : Forest TreeRow) (n at : ℕ) (x : List ℕ)
      → Takes f (announcement bus f (Insert n at x)) (after rows f (Insert n at x))
  takes_Insert f n at x =
      relabel-change (shown told) (is_path (path_of n)) (is_node n) (same_node n) _ _
      (λ row. let e = text_changed (told (path_of row.shape.node)).text (insert_there (pos at) x) (after_insert at x) (λ t. refl) row.contents.text in
      let e' = caret_stays (told (path_of row.shape.node)).caret (after_insert at x) (λ t. refl) row.contents.text in
      rw (e, e') refl) f

  takes_Delete : (f : Forest TreeRow) (n at : ℕ) (x : List ℕ)
      → Takes f (announcement bus f (Delete n at x)) (after rows f (Delete n at x))
  takes_Delete f n at x =
      relabel-change (shown told) (is_path (path_of n)) (is_node n) (same_node n) _ _
      (λ row. let e = text_changed (told (path_of row.shape.node)).text (delete_there (pos at) (pos (length x))) (after_delete at x) (λ t. refl) row.contents.text in
      let e' = caret_stays (told (path_of row.shape.node)).caret (after_delete at x) (λ t. refl) row.contents.text in
      rw (e, e') refl) f

  takes_Caret : (f : Forest TreeRow) (n at : ℕ)
      → Takes f (announcement bus f (Caret n at)) (after rows f (Caret n at))
  takes_Caret f n at =
      relabel-change (shown told) (is_path (path_of n)) (is_node n) (same_node n) _ _
      (λ row. let w = λ (t : TextContents). record t { caret = at } in
      let e = caret_changed (told (path_of row.shape.node)).caret at w (λ t. refl) row.contents.text in
      let e' = text_stays (told (path_of row.shape.node)).text w (λ t. refl) row.contents.text in
      rw (e, e') refl) f

  -- what a reader does not keep
  takes_TextSelect : (f : Forest TreeRow) (n : ℕ) (marks : List (ℕ × ℕ))
      → Takes f (announcement bus f (TextSelect n marks)) (after rows f (TextSelect n marks))
  takes_TextSelect f n marks =
      sym (unseen-change (shown told) (is_node n) (rows.changed (TextSelect n marks))
      (λ row. let w = λ (t : TextContents). record t { selections = marks } in
      let e = text_stays (told (path_of row.shape.node)).text w (λ t. refl) row.contents.text in
      let e' = caret_stays (told (path_of row.shape.node)).caret w (λ t. refl) row.contents.text in
      rw (← e, ← e') refl) f)

  takes_Relate : (f : Forest TreeRow) (n kind : ℕ) (ts : List ℕ)
      → Takes f (announcement bus f (Relate n kind ts)) (after rows f (Relate n kind ts))
  takes_Relate f n kind ts = sym (unseen-change (shown told) (is_node n) _ (λ row. refl) f)

  -- a removal's announcement: the child stands where it says
  seat_seen : (f : Forest TreeRow) (n : ℕ) → seat_in (path_of n) (view told f) ≡ renamed name_path (seat_of rows n f)
  seat_seen f n = place-relabel (shown told) (is_path (path_of n)) (is_node n) (same_node n) name_path _ _ (λ row. refl) None 0 f

  takes_Remove : (f : Forest TreeRow) (n p i : ℕ) → seat_of rows n f ≡ Some (Some p, i)
      → Takes f (announcement bus f (Remove n)) (after rows f (Remove n))
  takes_Remove f n p i e =
      let seen : seat_in (path_of n) (view told f) ≡ Some (Some (path_of p), i) = seat_seen f n ∙ ap (renamed name_path) e in
      let out = relabel-take_out (shown told) (is_path (path_of n)) (is_node n) (same_node n) f in
      let unseen = relabel-unseen (shown told) (rows.forgetting (in_subtree rows n f)) (λ row. refl) (take_out (is_node n) f) in
      rw e (rw seen (rw (same_path p, eq-eqb i i refl) (out ∙ sym unseen)))

  -- a row renewed by its own item is as it was
  renewed_row : (parent : Reference) (i : ℤ) (children : ℕ) (row : TreeRow)
      → renewed (item_of bus parent i children row) (shown told row) ≡ shown told row
  renewed_row parent i children row =
      ap (λ (k : Kinds). record (shown told row) { faces = kinds_number k }) (kinds_read_back (row.shape.node == 0) row.shape.kinds)

  -- the item of a known node that is not the root: the node moves
  item_moves : (f : Forest TreeRow) (row : TreeRow) (p i k : ℕ) → (row.shape.node ≡ 0 → ⊥)
      → has (is_node row.shape.node) f ≡ true → has (is_node p) (take_out (is_node row.shape.node) f) ≡ true
      → EachLabel (λ a. is_node row.shape.node a ≡ true → a ≡ row) (put_in (is_node p) (Some i) (pick (is_node row.shape.node) f) (take_out (is_node row.shape.node) f))
      → Takes f (NewItem (item_of bus (own bus p) (pos i) k row)) (put_in (is_node p) (Some i) (pick (is_node row.shape.node) f) (take_out (is_node row.shape.node) f))
  item_moves f row p i k nr there up only =
      let item = item_of bus (own bus p) (pos i) k row in
      let n = row.shape.node in
      let g = put_in (is_node p) (Some i) (pick (is_node n) f) (take_out (is_node n) f) in
      let b2 = not_path n 0 nr in
      let b3 = has-relabel (shown told) (is_path (path_of n)) (is_node n) (same_node n) f ∙ there in
      let out = relabel-take_out (shown told) (is_path (path_of n)) (is_node n) (same_node n) f in
      let b4 = has-relabel (shown told) (names bus (own bus p)) (is_node p) (same_names p) (take_out (is_node n) f) ∙ up in
      let pk = relabel-pick (shown told) (is_path (path_of n)) (is_node n) (same_node n) f in
      let put = relabel-put_in (shown told) (names bus (own bus p)) (is_node p) (same_names p) (Some i) (pick (is_node n) f) (take_out (is_node n) f) in
      let same = change-same (shown told) (is_path (path_of n)) (is_node n) (renewed item) (same_node n) g
      (EachLabel-weaker _ _ (λ a w t. subst (λ x. renewed item (shown told x) ≡ shown told x) (sym (w t)) (renewed_row (own bus p) (pos i) k row)) g only) in
      rw same_bus (rw b2 (rw b3 (rw out (rw b4 (rw pk (rw put same))))))

  takes_Move : (f : Forest TreeRow) (n p i : ℕ) → ((m : ℕ) → count (is_node m) f ≤ 1) → Moves rows f n p i
      → Takes f (announcement bus f (Move n p i)) (after rows f (Move n p i))
  takes_Move f n p i once m = at (find-has (is_node n) (after rows f (Move n p i)) there)
    where
      moves : (test : TreeRow → Bool) → count test (after rows f (Move n p i)) ≡ count test f
      moves = count-move rows rows_sound f n p i once m.no_cycle

      there : 1 ≤ count (is_node n) (after rows f (Move n p i))
      there = let a = moves (is_node n) in let b = count-has (is_node n) f m.there in omega arith

      moves_as : (row : TreeRow) (k n : ℕ) → row.shape.node ≡ n → (n ≡ 0 → ⊥) → has (is_node n) f ≡ true
          → has (is_node p) (take_out (is_node n) f) ≡ true
          → EachLabel (λ a. is_node n a ≡ true → a ≡ row) (after rows f (Move n p i))
          → Takes f (NewItem (item_of bus (own bus p) (pos i) k row)) (after rows f (Move n p i))
      moves_as row k n e nr there up only =
          subst (λ j. (j ≡ 0 → ⊥) → has (is_node j) f ≡ true → has (is_node p) (take_out (is_node j) f) ≡ true
          → EachLabel (λ a. is_node j a ≡ true → a ≡ row) (after rows f (Move j p i))
          → Takes f (NewItem (item_of bus (own bus p) (pos i) k row)) (after rows f (Move j p i))) e
          (item_moves f row p i k) nr there up only

      at : (row : TreeRow) × (find (is_node n) (after rows f (Move n p i)) ≡ Some row)
          → Takes f (announcement bus f (Move n p i)) (after rows f (Move n p i))
      at (row, e) =
          let is_n : row.shape.node ≡ n = eqb-true row.shape.node n (find-passes (is_node n) (after rows f (Move n p i)) row e).0 in
          let only = find-only (is_node n) (after rows f (Move n p i)) row (let a = moves (is_node n) in let b = once n in omega arith) e in
          rw e (moves_as row (width (children_at (is_node n) (after rows f (Move n p i)))) n is_n m.not_root m.there m.no_cycle only)

  -- a removal of what is not there changes nothing
  removed_idle : (f : Forest TreeRow) (m : ℕ) → count (is_node m) f ≡ 0 → Takes f (Removed (path_of m)) f
  removed_idle f m z = at (bytes_eq (path_of m) (path_of 0))
    where
      none : take_out (is_path (path_of m)) (view told f) ≡ view told f
      none = take_out-none (is_path (path_of m)) (view told f) (count-relabel (shown told) (is_path (path_of m)) (is_node m) (same_node m) f ∙ z)

      at : (b : Bool) → cond b (view told f) (take_out (is_path (path_of m)) (view told f)) ≡ view told f
      at true = refl
      at false = none

  known_child : (f : Forest TreeRow) (n : ℕ) → has (is_node n) f ≡ true
      → marks_reload (view told f) (ChildAdded (path_of n)) ≡ false
  known_child f n h = rw (has-relabel (shown told) (is_path (path_of n)) (is_node n) (same_node n) f ∙ h) refl

  idle_append : (v : Forest Row) (xs ys : List News) → Idle (path_of 0) bus v xs → Idle (path_of 0) bus v ys
      → Idle (path_of 0) bus v (xs ++ ys)
  idle_append v [] ys h k = k
  idle_append v (x ∷ xs) ys h k = (h.0, h.1, idle_append v xs ys h.2 k)

  abbrev removals : Forest TreeRow → List News
  removals f = map (λ (row : TreeRow). Removed (path_of row.shape.node)) (labels f)

  idle_removals : (g f : Forest TreeRow) → EachLabel (λ row. count (is_node row.shape.node) g ≡ 0) f
      → Idle (path_of 0) bus (view told g) (removals f)
  idle_removals g nil h = tt
  idle_removals g (tree a c r) h = (
    removed_idle g a.shape.node h.0,
    refl,
    subst (λ ns. Idle (path_of 0) bus (view told g) ns) (sym (map-append (λ (row : TreeRow). Removed (path_of row.shape.node)) (labels c) (labels r)))
        (idle_append (view told g) (removals c) (removals r) (idle_removals g c h.1) (idle_removals g r h.2)),
  )

  idle_Remove : (f : Forest TreeRow) (n : ℕ) → ((m : ℕ) → count (is_node m) f ≤ 1)
      → Idle (path_of 0) bus (view told (after rows f (Remove n))) (echoes bus f (Remove n))
  idle_Remove f n once =
      idle_removals (after rows f (Remove n)) (pick (is_node n) f)
      (EachLabel-weaker (λ row. 1 ≤ count (is_node row.shape.node) (pick (is_node n) f)) (λ row. count (is_node row.shape.node) (after rows f (Remove n)) ≡ 0)
      (λ row k.
      let a = count-relabel (rows.forgetting (in_subtree rows n f)) (is_node row.shape.node) (is_node row.shape.node) (λ x. refl) (take_out (is_node n) f) in
      let b = count-parts (is_node row.shape.node) (is_node n) f in
      let l = once row.shape.node in
      omega arith)
      (pick (is_node n) f)
      (each_counted (λ (a b : TreeRow). is_node a.shape.node b) self (pick (is_node n) f) (pick (is_node n) f) (λ p. omega arith)))

  not_seat : (q j : ℕ) (t : Option (Option ℕ × ℕ)) → (Some (Some q, j) ≡ t → ⊥)
      → is_seat_at (path_of q) (pos j) (renamed name_path t) ≡ false
  not_seat q j None ne = refl
  not_seat q j (Some (None, k)) ne = refl
  not_seat q j (Some (Some p, k)) ne = at (bytes_eq (path_of p) (path_of q)) (k == j) refl refl
    where
      at : (b d : Bool) → bytes_eq (path_of p) (path_of q) ≡ b → (k == j) ≡ d → cond b d false ≡ false
      at false d eb ed = refl
      at true false eb ed = refl
      at true true eb ed =
          let x : p ≡ q = path_of_apart p q ((bytes_eq-Decides (path_of p) (path_of q)).0 eb) in
          let y : k ≡ j = eqb-true k j ed in
          absurd (ne (rw (x, y) refl))

  idle_seat : (f : Forest TreeRow) (n : ℕ) (s : Option (Option ℕ × ℕ)) → (s ≡ seat_of rows n f → ⊥)
      → (effect (path_of 0) bus (view told f) (removed_news n s) ≡ view told f) × (marks_reload (view told f) (removed_news n s) ≡ false)
  idle_seat f n None ne = (refl, refl)
  idle_seat f n (Some (None, j)) ne = (refl, refl)
  idle_seat f n (Some (Some q, j)) ne = (rw (seat_seen f n) (rw (not_seat q j (seat_of rows n f) ne) refl), refl)

  idle_Move : (f : Forest TreeRow) (k n p i : ℕ) → ((m : ℕ) → count (is_node m) f ≤ 1) → IsTree rows f k
      → Moves rows f n p i → Idle (path_of 0) bus (view told (after rows f (Move n p i))) (echoes bus f (Move n p i))
  idle_Move f k n p i once t m =
      let s = idle_seat (after rows f (Move n p i)) n (seat_of rows n f) (λ e. m.elsewhere (e ∙ seat_of_moved rows rows_sound f k n p i t m)) in
      let a = count-move rows rows_sound f n p i once m.no_cycle (is_node n) in
      let b = count-has (is_node n) f m.there in
      (s.0, s.1, (refl, refl, (refl, known_child (after rows f (Move n p i)) n (has-count (is_node n) (after rows f (Move n p i)) (omega arith)), tt)))

  fresh_text : (t : Option TextContents) → unknown_text_if (is_some t) ≡ text_part false (characters_of t)
  fresh_text None = refl
  fresh_text (Some x) = refl

  fresh_caret : (t : Option TextContents) → unknown_number_if (is_some t) ≡ number_part false (caret_of t)
  fresh_caret None = refl
  fresh_caret (Some x) = refl

  fresh_columns : (t : Option ℕ) → unknown_number_if (is_some t) ≡ number_part false t
  fresh_columns None = refl
  fresh_columns (Some x) = refl

  has_text : (t : Option (List ℕ)) → is_some t ≡ is_some (first_text t)
  has_text None = refl
  has_text (Some x) = refl

  -- the row of a node of which nothing was told yet, from its item
  pub fresh_row : (parent : Reference) (i : ℤ) (children : ℕ) (row : TreeRow) → IsUntold told row.shape.node
      → row.shape.kinds.text ≡ is_some row.contents.text → row.shape.kinds.table ≡ is_some row.contents.columns
      → fresh (item_of bus parent i children row) ≡ shown told row
  fresh_row parent i children row u et ec =
      ap of_kinds (kinds_read_back (row.shape.node == 0) row.shape.kinds)
      ∙ rw (et, ec, u.0, u.1, u.2, ← fresh_text row.contents.text, ← fresh_caret row.contents.text, ← fresh_columns row.contents.columns) refl
    where
      of_kinds : Kinds → Row
      of_kinds k = record (shown told row) {
        faces = kinds_number k;
        text = unknown_text_if k.text;
        caret = unknown_number_if k.text;
        columns = unknown_number_if k.table;
      }

  takes_Add : (f : Forest TreeRow) (k n p i : ℕ) (seed : Seed) → IsTree rows f k → Adds rows f k n p i seed
      → IsUntold told n → Takes f (announcement bus f (Add n p i seed)) (after rows f (Add n p i seed))
  takes_Add f k n p i seed t m u =
      let item = item_of bus (own bus p) (pos i) 0 (rows.first n seed) in
      let b2 = not_path n 0 (λ e. let l = m.next in omega arith) in
      let none : count (is_node n) f ≡ 0 = t.numbered n (let l = m.next in omega arith) in
      let b3 = has-relabel (shown told) (is_path (path_of n)) (is_node n) (same_node n) f ∙ not_there (is_node n) f none in
      let b4 = has-relabel (shown told) (names bus (own bus p)) (is_node p) (same_names p) f ∙ m.parent in
      let row = fresh_row (own bus p) (pos i) 0 (rows.first n seed) u (has_text seed.text) refl in
      let put = relabel-put_in (shown told) (names bus (own bus p)) (is_node p) (same_names p) (Some i) (tree (rows.first n seed) nil nil) f in
      rw same_bus (rw b2 (rw b3 (rw b4 (rw row put))))

  idle_Add : (f : Forest TreeRow) (k n p i : ℕ) (seed : Seed) → IsTree rows f k → Adds rows f k n p i seed
      → Idle (path_of 0) bus (view told (after rows f (Add n p i seed))) (echoes bus f (Add n p i seed))
  idle_Add f k n p i seed t m =
      let a = count-put_in (is_node n) (is_node p) (Some i) (tree (rows.first n seed) nil nil) f in
      let b = count-has (is_node p) f m.parent in
      let c : count (is_node n) (tree (rows.first n seed) nil nil) ≡ 1 = rw (eq-eqb n n refl) refl in
      let d : count (is_node p) f * count (is_node n) (tree (rows.first n seed) nil nil) ≡ count (is_node p) f = rw c (omega arith) in
      (refl, known_child (after rows f (Add n p i seed)) n (has-count (is_node n) (after rows f (Add n p i seed)) (omega arith)), tt)

-- a node that is not the root stands below another
abbrev IsBelow : Option (Option ℕ × ℕ) → Type 0
IsBelow o = (p : ℕ) × (i : ℕ) × (o ≡ Some (Some p, i))

below_at : (b : Bool) (u i m n : ℕ) (x y : Option (Option ℕ × ℕ)) → (1 ≤ m → IsBelow x) → (1 ≤ n → IsBelow y)
    → (m ≡ 0 → x ≡ None) → 1 ≤ cond b 1 0 + (m + n) → IsBelow (cond b (Some (Some u, i)) (first_of x y))
below_at true u i m n x y hx hy z l = (u, i, refl)
below_at false u i zero n x y hx hy z l = rw (z refl) (hy (omega arith))
below_at false u i (suc m) n None y hx hy z l = let e = hx (omega arith) in cc e.2
below_at false u i (suc m) n (Some x) y hx hy z l = hx (omega arith)

place-below : (n u i : ℕ) (s : Forest TreeRow) → 1 ≤ count (is_node n) s
    → IsBelow (place (λ (row : TreeRow). Some row.shape.node) (is_node n) (Some u) i s)
place-below n u i nil l = absurd (omega arith)
place-below n u i (tree row c r) l =
    below_at (row.shape.node == n) u i (count (is_node n) c) (count (is_node n) r) _ _ (place-below n row.shape.node 0 c) (place-below n u (suc i) r)
    (place-none (λ (row : TreeRow). Some row.shape.node) (is_node n) (Some row.shape.node) 0 c) l

passed : (b : Bool) (x : Option (Option ℕ × ℕ)) → b ≡ false → IsBelow x
    → IsBelow (cond b (Some (None, 0)) (first_of x None))
passed true x e h = cc
passed false None e h = h
passed false (Some x) e h = h

seat_below : (f : Forest TreeRow) (k n : ℕ) → IsTree rows f k → Removes rows f n → IsBelow (seat_of rows n f)
seat_below f k n t m = at f t.rooted (count-has (is_node n) f m.there)
  where
    at : (g : Forest TreeRow) → IsRooted rows g → 1 ≤ count (is_node n) g → IsBelow (seat_of rows n g)
    at g (row, c, z, e) l =
        let out : (row.shape.node == n) ≡ false = ne_eqb row.shape.node n (λ k. m.not_root (sym k ∙ z)) in
        let l' : 1 ≤ count (is_node n) (tree row c nil) = subst (λ h. 1 ≤ count (is_node n) h) e l in
        let o : cond {A = ℕ} (row.shape.node == n) 1 0 ≡ 0 = ap (λ b. cond {A = ℕ} b 1 0) out in
        let b = place-below n row.shape.node 0 c (omega arith) in
        subst (λ h. IsBelow (seat_of rows n h)) (sym e) (passed (row.shape.node == n) _ out b)

pub seen : (bus : List ℕ) (told : List ℕ → Told) (f : Forest TreeRow) (k : ℕ) (step : Step)
    → IsTree rows f k → Applies rows f k step → UntoldOfNew told step → IsSeen bus told f step
seen bus told f k (Add n p i seed) t a u =
    record { announcement = takes_Add bus told f k n p i seed t a u; echoes = idle_Add bus told f k n p i seed t a }
seen bus told f k (Remove n) t a u =
    let s = seat_below f k n t a in
    record { announcement = takes_Remove bus told f n s.0 s.1 s.2; echoes = idle_Remove bus told f n t.once }
seen bus told f k (Move n p i) t a u =
    record { announcement = takes_Move bus told f n p i t.once a; echoes = idle_Move bus told f k n p i t.once t a }
seen bus told f k (SetName n x) t a u = record { announcement = takes_SetName bus told f n x; echoes = tt }
seen bus told f k (SetDescription n x) t a u = record { announcement = takes_SetDescription bus told f n x; echoes = tt }
seen bus told f k (SetRole n x) t a u = record { announcement = takes_SetRole bus told f n x; echoes = tt }
seen bus told f k (SetState n s on) t a u = record { announcement = takes_SetState bus told f n s on; echoes = tt }
seen bus told f k (Insert n at x) t a u = record { announcement = takes_Insert bus told f n at x; echoes = tt }
seen bus told f k (Delete n at x) t a u = record { announcement = takes_Delete bus told f n at x; echoes = tt }
seen bus told f k (Caret n at) t a u = record { announcement = takes_Caret bus told f n at; echoes = tt }
seen bus told f k (TextSelect n marks) t a u = record { announcement = takes_TextSelect bus told f n marks; echoes = tt }
seen bus told f k (Relate n kind ts) t a u = record { announcement = takes_Relate bus told f n kind ts; echoes = tt }
