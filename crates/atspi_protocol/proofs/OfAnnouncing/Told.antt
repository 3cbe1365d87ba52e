-- The news in the signals of a step are what the step tells.
use Rattle.std.proofs.Common.{◌≡◌, ℕ, ◌+◌, ◌<◌, ◌≤◌, Bool, true, false, Option, Some, None, refl, ap, ◌∙◌, arith}
use Rattle.std.specs.Prelude.{pos, List, [], ◌∷◌, ◌++◌, map, length, take, drop, codes}
use Rattle.std.proofs.lemmas.List.{map-append}
use Rattle.atspi_tree_model.specs.declared.step.Seed.{Seed}
use Rattle.atspi_tree_model.specs.declared.step.Step.TheVariants.{Add, Remove, Move, SetName, SetDescription, SetRole, SetState, Insert, Delete, Caret, TextSelect, Relate}
use Rattle.atspi_tree_model.specs.declared.news.News.{News}
use Rattle.atspi_tree_model.specs.declared.news.News.TheVariants.{Removed, ChildAdded, ChildRemoved, Item as NewItem}
use Rattle.atspi_tree_model.specs.Forest.{Forest, labels, count, width, take_out, pick, find, children_at}
use Rattle.atspi_tree_model.specs.Row.{TreeRow, TextContents, Holds, HoldsIfThere, IsText}
use Rattle.atspi_tree_model.specs.RowRules.{rows}
use Rattle.atspi_tree_model.specs.Tree.{is_node, after, seat_of, IsTree, Adds, Removes, Moves, Changes}
use Rattle.atspi_tree_model.specs.Path.{path_of}
use Rattle.atspi_tree_model.specs.Announce.{own, item_of, removed_news, echoes}
use Rattle.atspi_tree_model.proofs.Counts.{count-parts}
use Rattle.atspi_tree_model.proofs.Found.{count-has, find-has}
use Rattle.atspi_tree_model.proofs.Lookup.{each-find}
use Rattle.atspi_tree_model.proofs.RowRules.{rows_sound}
use Rattle.atspi_tree_model.proofs.Kept.{count-move}
use Rattle.atspi_protocol.specs.ends.Places.{reference}
use Rattle.atspi_protocol.specs.announcing.Signals.{Signal, child_changed, added, removed, property_changed}
use Rattle.atspi_protocol.specs.announcing.Announced.{left, announced}
use Rattle.atspi_protocol.specs.news.NewsOf.{news_of}
use Rattle.atspi_protocol.specs.news.CacheSignals.{added as news_added}
use Rattle.atspi_protocol.specs.announcing.Laws.{told, SignalsTellSteps}
use Rattle.atspi_protocol.proofs.OfAnnouncing.Bounds.{everyone, width-count, count-children, text-place, caret-place}
use Rattle.atspi_protocol.proofs.OfAnnouncing.Seated.{IsBelow, seat_below, seat_small}
use Rattle.atspi_protocol.proofs.OfAnnouncing.Back.{same_bus, signed_back, item_back, state_back}

module _ (bus : List ℕ) (serial : ℕ) where
  abbrev read : Signal → News
  read s = news_of bus (record s.message { serial = serial; sender = Some bus })

  child_added : (p i n : ℕ) → read (child_changed bus p (codes "add") i n) ≡ ChildAdded (path_of n)
  child_added p i n = rw (same_bus bus) refl

  child_removed : (p i n : ℕ) → i ≤ 2147483647
      → read (child_changed bus p (codes "remove") i n) ≡ ChildRemoved (path_of p) (pos i) (path_of n)
  child_removed p i n l = rw (same_bus bus, signed_back i l) refl

  node_removed : (n : ℕ) → read (removed bus n) ≡ Removed (path_of n)
  node_removed n = rw (same_bus bus) refl

  node_added : (p i children : ℕ) (row : TreeRow) → i ≤ 2147483647 → children ≤ 2147483647
      → read (added (item_of bus (own bus p) (pos i) children row)) ≡ NewItem (item_of bus (own bus p) (pos i) children row)
  node_added p i children row li lc = ap news_added (item_back bus p i children row li lc)

  nodes_removed : (ns : List TreeRow)
      → map read (map (λ (row : TreeRow). removed bus row.shape.node) ns) ≡ map (λ (row : TreeRow). Removed (path_of row.shape.node)) ns
  nodes_removed [] = refl
  nodes_removed (n ∷ ns) = rw (node_removed n.shape.node, nodes_removed ns) refl

  tells_Add : (f : Forest TreeRow) (k n p i : ℕ) (seed : Seed) → IsTree rows f k → Adds rows f k n p i seed
      → map read (announced bus f (Add n p i seed)) ≡ told bus f (Add n p i seed)
  tells_Add f k n p i seed t a =
      let w = width-count (children_at (is_node p) f) in
      let c = count-children (is_node p) f in
      let l = t.few in
      let b = a.index in
      rw (node_added p i 0 (rows.first n seed) (omega arith) (omega arith), child_added p i n) refl

  left_back : (n p i : ℕ) → i ≤ 2147483647 → map read (left bus n (Some (Some p, i))) ≡ removed_news n (Some (Some p, i)) ∷ []
  left_back n p i l = rw (child_removed p i n l) refl

  left_tells : (f : Forest TreeRow) (k n : ℕ) → IsTree rows f k → Removes rows f n
      → map read (left bus n (seat_of rows n f)) ≡ removed_news n (seat_of rows n f) ∷ []
  left_tells f k n t m = at (seat_below f k n t m)
    where
      at : IsBelow (seat_of rows n f) → map read (left bus n (seat_of rows n f)) ≡ removed_news n (seat_of rows n f) ∷ []
      at (p, i, e) = let s = seat_small f n p i e in let l = t.few in rw e (left_back n p i (omega arith))

  tells_Remove : (f : Forest TreeRow) (k n : ℕ) → IsTree rows f k → Removes rows f n
      → map read (announced bus f (Remove n)) ≡ told bus f (Remove n)
  tells_Remove f k n t m =
      map-append read (left bus n (seat_of rows n f)) (map (λ (row : TreeRow). removed bus row.shape.node) (labels (pick (is_node n) f)))
      ∙ rw (left_tells f k n t m, nodes_removed (labels (pick (is_node n) f))) refl

  abbrev moved : Forest TreeRow → ℕ → ℕ → ℕ → Forest TreeRow
  moved f n p i = after rows f (Move n p i)

  tells_Move : (f : Forest TreeRow) (k n p i : ℕ) → IsTree rows f k → Moves rows f n p i
      → map read (announced bus f (Move n p i)) ≡ told bus f (Move n p i)
  tells_Move f k n p i t m = at (find-has (is_node n) (moved f n p i) there)
    where
      same : (test : TreeRow → Bool) → count test (moved f n p i) ≡ count test f
      same = count-move rows rows_sound f n p i t.once m.no_cycle

      there : 1 ≤ count (is_node n) (moved f n p i)
      there = let a = same (is_node n) in let b = count-has (is_node n) f m.there in omega arith

      few_children : width (children_at (is_node n) (moved f n p i)) ≤ 2147483647
      few_children =
          let w = width-count (children_at (is_node n) (moved f n p i)) in
          let c = count-children (is_node n) (moved f n p i) in
          let s = same everyone in
          let l = t.few in
          omega arith

      index : i ≤ 2147483647
      index =
          let w = width-count (take_out (is_node n) (children_at (is_node p) f)) in
          let o = count-parts everyone (is_node n) (children_at (is_node p) f) in
          let c = count-children (is_node p) f in
          let l = t.few in
          let b = m.index in
          omega arith

      rest : map read (left bus n (seat_of rows n f) ++ property_changed n (codes "accessible-parent") (reference bus (path_of p)) ∷ child_changed bus p (codes "add") i n ∷ []) ≡ echoes bus f (Move n p i)
      rest =
          map-append read (left bus n (seat_of rows n f)) _
          ∙ rw (left_tells f k n t (record { not_root = m.not_root; there = m.there }), child_added p i n) refl

      at : (row : TreeRow) × (find (is_node n) (moved f n p i) ≡ Some row) → map read (announced bus f (Move n p i)) ≡ told bus f (Move n p i)
      at (row, e) = rw (e, node_added p i (width (children_at (is_node n) (moved f n p i))) row index few_children, rest) refl

  text_limits : (f : Forest TreeRow) (k : ℕ) (row : TreeRow) (n : ℕ) → IsTree rows f k → find (is_node n) f ≡ Some row
      → HoldsIfThere IsText row.contents.text
  text_limits f k row n t e = (each-find rows.IsLawful (is_node n) f row t.lawful e).1.lawful_text

  tells_Insert : (f : Forest TreeRow) (k n at : ℕ) (x : List ℕ) → IsTree rows f k → Changes rows f (Insert n at x)
      → map read (announced bus f (Insert n at x)) ≡ told bus f (Insert n at x)
  tells_Insert f k n at x t c =
      let l = text-place at c.row.contents.text (text_limits f k c.row n t c.there) c.allowed.1 in
      rw (signed_back at (omega arith)) refl

  delete_place : (at count : ℕ) (x : List ℕ) (s : Option TextContents)
      → Holds (λ (t : TextContents). (at + length x ≤ length t.characters) × (take (length x) (drop at t.characters) ≡ x)) s
      → Holds (λ (t : TextContents). at + length x ≤ length t.characters) s
  delete_place at count x None h = h
  delete_place at count x (Some s) h = h.0

  tells_Delete : (f : Forest TreeRow) (k n at : ℕ) (x : List ℕ) → IsTree rows f k → Changes rows f (Delete n at x)
      → map read (announced bus f (Delete n at x)) ≡ told bus f (Delete n at x)
  tells_Delete f k n at x t c =
      let l = text-place (at + length x) c.row.contents.text (text_limits f k c.row n t c.there) (delete_place at 0 x c.row.contents.text c.allowed.1) in
      rw (signed_back at (omega arith), signed_back (length x) (omega arith)) refl

  tells_Caret : (f : Forest TreeRow) (k n at : ℕ) → IsTree rows f k → Changes rows f (Caret n at)
      → map read (announced bus f (Caret n at)) ≡ told bus f (Caret n at)
  tells_Caret f k n at t c =
      let l = caret-place at c.row.contents.text c.lawful.1.lawful_text c.allowed.1 in
      rw (signed_back at (omega arith)) refl

  tells_SetState : (f : Forest TreeRow) (n s : ℕ) (on : Bool) → s < 44
      → map read (announced bus f (SetState n s on)) ≡ told bus f (SetState n s on)
  tells_SetState f n s true l = ap (λ (news : News). news ∷ []) (state_back (path_of n) true s l)
  tells_SetState f n s false l = ap (λ (news : News). news ∷ []) (state_back (path_of n) false s l)

pub signals_tell_steps : SignalsTellSteps
signals_tell_steps bus serial f k (Add n p i seed) t a = tells_Add bus serial f k n p i seed t a
signals_tell_steps bus serial f k (Remove n) t a = tells_Remove bus serial f k n t a
signals_tell_steps bus serial f k (Move n p i) t a = tells_Move bus serial f k n p i t a
signals_tell_steps bus serial f k (SetName n x) t a = refl
signals_tell_steps bus serial f k (SetDescription n x) t a = refl
signals_tell_steps bus serial f k (SetRole n x) t a = refl
signals_tell_steps bus serial f k (SetState n s on) t a = tells_SetState bus serial f n s on a.allowed.0
signals_tell_steps bus serial f k (Insert n at x) t a = tells_Insert bus serial f k n at x t a
signals_tell_steps bus serial f k (Delete n at x) t a = tells_Delete bus serial f k n at x t a
signals_tell_steps bus serial f k (Caret n at) t a = tells_Caret bus serial f k n at t a
signals_tell_steps bus serial f k (TextSelect n marks) t a = refl
signals_tell_steps bus serial f k (Relate n kind targets) t a = refl
