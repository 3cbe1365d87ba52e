-- What is told by the shape of a tree is what is told of the tree.
use Rattle.std.proofs.Common.{◌≡◌, ℕ, suc, ◌≤◌, Bool, true, false, cond, List, [], ◌∷◌, ◌++◌, map, length, Option, Some, None, refl, sym, ap, ◌∙◌, arith}
use Rattle.std.proofs.lemmas.List.{append-nil}
use Rattle.std.specs.Prelude.{ℤ, pos, codes, ◌==◌, IfSome}
use Rattle.std.specs.Option.{option_map}
use Rattle.atspi_message.specs.Envelope.{Envelope}
use Rattle.atspi_tree_model.specs.declared.news.Item.{Item}
use Rattle.atspi_tree_model.specs.declared.news.Reference.{Reference}
use Rattle.atspi_tree_model.specs.declared.step.Step.{Step}
use Rattle.atspi_tree_model.specs.declared.step.Step.TheVariants.{Add, Remove, Move, SetName, SetDescription, SetRole, SetState, Insert, Delete, Caret, TextSelect, Relate}
use Rattle.atspi_tree_model.specs.Announce.{own, item_of}
use Rattle.atspi_tree_model.specs.Forest.{Forest, nil, tree, labels, count, has, width, take_out, pick, relabel, find, children_at}
use Rattle.atspi_tree_model.specs.Path.{path_of}
use Rattle.atspi_tree_model.specs.Row.{ShapeRow, TreeRow}
use Rattle.atspi_tree_model.specs.RowRules.{shapes, rows}
use Rattle.atspi_tree_model.specs.Tree.{is_shape, is_node, shape_of, after, seat_of, Moves}
use Rattle.atspi_tree_model.proofs.Counts.{count-parts}
use Rattle.atspi_tree_model.proofs.Found.{count-has, find-has}
use Rattle.atspi_tree_model.proofs.Lookup.{find-relabel}
use Rattle.atspi_tree_model.proofs.ShapeOf.{shape, same_shape, shape-children, shape-pick, shape-seat, shape-width, shape_after}
use Rattle.atspi_protocol.specs.ends.Places.{reference}
use Rattle.atspi_protocol.specs.announcing.Signals.{Signal, child_changed, property_changed, added, removed}
use Rattle.atspi_protocol.specs.announcing.Announced.{announced, left, told_node}
use Rattle.atspi_protocol.proofs.OfAnnouncing.Bounds.{everyone, width-count, count-children}
use Rattle.atspi_protocol.specs.exporting.Hearing.{is_covered}
use Rattle.atspi_tree.specs.inner.Places.{index_in}
use Rattle.atspi_tree.specs.Seats.{seats_below}
use Rattle.atspi_tree.specs.TreeShape.{TreeShape, IsLawful, children_of, parent_of, row_of}
use Rattle.atspi_tree.specs.declared.seats.Seat.{Seat}
use Rattle.atspi_tree.proofs.Trees.{width-numbers}
use Rattle.atspi_app_items.specs.Bare.{bare}
use Rattle.atspi_app_items.proofs.Few.{children_few}
use Rattle.atspi_app_signals.specs.Asked.{messages_asked, CanBeTold, without_contents}
use Rattle.atspi_app_signals.proofs.Asked.{Pairs, asked_none, asked_pushed, asked_all}
use Rattle.atspi_app_signals.proofs.Placed.{moved_first, subtree_told, shape_told}

-- an index among the children of a node is small
index-few : (n : ℕ) (ms : List ℕ) → index_in n ms ≤ length ms
index-few n [] = omega arith
index-few n (m ∷ ms) = at (m == n) (index-few n ms)
  where
    at : (b : Bool) → index_in n ms ≤ length ms → cond b 0 (suc (index_in n ms)) ≤ suc (length ms)
    at true l = omega arith
    at false l = omega arith

pub seat_few : (t : TreeShape) (n p : ℕ) → IsLawful t → index_in n (children_of p t) ≤ 8192
seat_few t n p law = let a = index-few n (children_of p t) in let b = children_few t p law in omega arith

pub moved_few : (t : TreeShape) (n p i : ℕ) → IsLawful t → Moves shapes t.rows n p i → i ≤ 8192
moved_few t n p i law m =
    let w = width-count (take_out (is_shape n) (children_at (is_shape p) t.rows)) in
    let o = count-parts everyone (is_shape n) (children_at (is_shape p) t.rows) in
    let c = count-children (is_shape p) t.rows in
    let l = law.few in
    let b = m.index in
    omega arith

pub stands_once : (t : TreeShape) (n : ℕ) → IsLawful t → has (is_shape n) t.rows ≡ true → count (is_shape n) t.rows ≡ 1
stands_once t n law h = let some = count-has (is_shape n) t.rows h in let once = law.once n in omega arith

-- a node that left its seat
pub left_unheard : (heard : Pairs) (bus : List ℕ) (n : ℕ) (o : Option (Option ℕ × ℕ)) → is_covered heard (codes "children-changed") (codes "remove") ≡ false
    → (old : List Envelope) → old ≡ old ++ messages_asked heard (left bus n o)
left_unheard heard bus n None c old = sym (append-nil old)
left_unheard heard bus n (Some (None, i)) c old = sym (append-nil old)
left_unheard heard bus n (Some (Some p, i)) c old = asked_none heard (child_changed bus p (codes "remove") i n) old c

left_top : (heard : Pairs) (bus : List ℕ) (n : ℕ) (o : Option (Option ℕ × ℕ)) → option_map (λ (s : Option ℕ × ℕ). s.0) o ≡ Some None
    → (old : List Envelope) → old ≡ old ++ messages_asked heard (left bus n o)
left_top heard bus n None e old = sym (append-nil old)
left_top heard bus n (Some (None, i)) e old = sym (append-nil old)
left_top heard bus n (Some (Some p, i)) e old = absurd cc

pub left_root : (heard : Pairs) (bus : List ℕ) (t : TreeShape) (n : ℕ) → parent_of n t ≡ Some None
    → (old : List Envelope) → old ≡ old ++ messages_asked heard (left bus n (seat_of shapes n t.rows))
left_root heard bus t n e old = left_top heard bus n (seat_of shapes n t.rows) e old

pub left_pushed : (heard : Pairs) (bus : List ℕ) (n p i : ℕ) (o : Option (Option ℕ × ℕ)) (m : Envelope) (new old : List Envelope) → o ≡ Some (Some p, i)
    → is_covered heard (codes "children-changed") (codes "remove") ≡ true → m ≡ (child_changed bus p (codes "remove") i n).message
    → new ≡ old ++ m ∷ [] → new ≡ old ++ messages_asked heard (left bus n o)
left_pushed heard bus n p i o m new old is c k e =
    asked_pushed heard (child_changed bus p (codes "remove") i n) m new old c k e ∙ ap (λ s. old ++ messages_asked heard (left bus n s)) (sym is)

-- a node that is gone, with all below it
pub gone_asked : (heard : Pairs) (bus : List ℕ) (t : TreeShape) (n : ℕ) → count (is_shape n) t.rows ≡ 1
    → is_covered heard (codes "children-changed") (codes "remove") ≡ true
    → messages_asked heard (map (λ (row : ShapeRow). removed bus row.node) (labels (pick (is_shape n) t.rows)))
    ≡ (removed bus n).message ∷ map (λ (s : Seat). (removed bus s.node).message) (seats_below n t)
gone_asked heard bus t n one c =
    asked_all heard (λ (row : ShapeRow). removed bus row.node) (labels (pick (is_shape n) t.rows)) (λ row. c)
    ∙ subtree_told (λ m. (removed bus m).message) t n one

pub removed_told : (bus : List ℕ) (f : Forest TreeRow) (t : TreeShape) (n : ℕ) → shape_of f ≡ t.rows
    → left bus n (seat_of shapes n t.rows) ++ map (λ (row : ShapeRow). removed bus row.node) (labels (pick (is_shape n) t.rows)) ≡ announced bus f (Remove n)
removed_told bus f t n e =
    ap (λ (g : Forest ShapeRow). left bus n (seat_of shapes n g) ++ map (λ (row : ShapeRow). removed bus row.node) (labels (pick (is_shape n) g))) (sym e)
    ∙ ap (λ o. left bus n o ++ map (λ (row : ShapeRow). removed bus row.node) (labels (pick (is_shape n) (shape_of f)))) (shape-seat n f)
    ∙ ap (λ l. left bus n (seat_of rows n f) ++ l)
    (ap (λ (g : Forest ShapeRow). map (λ (row : ShapeRow). removed bus row.node) (labels g)) (shape-pick n f) ∙ shape_told (removed bus) (pick (is_node n) f))

-- the item of a node
pub item_sent : (bus : List ℕ) (up : Reference) (z : ℤ) (i children : ℕ) (o : Option ShapeRow) (item : Item) (m : Envelope) → z ≡ pos i
    → IfSome o (λ row. item ≡ item_of bus up z children (bare row)) → m ≡ (added item).message
    → IfSome o (λ row. m ≡ (added (item_of bus up (pos i) children (bare row))).message)
item_sent bus up z i children None item m k h e = tt
item_sent bus up z i children (Some row) item m k h e =
    e ∙ ap (λ x. (added x).message) (h ∙ ap (λ x. item_of bus up x children (bare row)) k)

pub told_unheard : (heard : Pairs) (bus : List ℕ) (p i children : ℕ) (o : Option TreeRow) → is_covered heard (codes "children-changed") (codes "add") ≡ false
    → (old : List Envelope) → old ≡ old ++ messages_asked heard (told_node bus p i children o)
told_unheard heard bus p i children None c old = sym (append-nil old)
told_unheard heard bus p i children (Some row) c old = asked_none heard (added (item_of bus (own bus p) (pos i) children row)) old c

told_found : (heard : Pairs) (bus : List ℕ) (p i children : ℕ) (o : Option ShapeRow) (row : ShapeRow) (m : Envelope) (new old : List Envelope) → o ≡ Some row
    → is_covered heard (codes "children-changed") (codes "add") ≡ true
    → IfSome o (λ r. m ≡ (added (item_of bus (own bus p) (pos i) children (bare r))).message) → new ≡ old ++ m ∷ []
    → new ≡ old ++ messages_asked heard (told_node bus p i children (option_map bare o))
told_found heard bus p i children None row m new old is c h e = absurd cc
told_found heard bus p i children (Some r) row m new old is c h e = asked_pushed heard (added (item_of bus (own bus p) (pos i) children (bare r))) m new old c h e

pub told_pushed : (heard : Pairs) (bus : List ℕ) (p i children n : ℕ) (t : TreeShape) (m : Envelope) (new old : List Envelope) → has (is_shape n) t.rows ≡ true
    → is_covered heard (codes "children-changed") (codes "add") ≡ true
    → IfSome (row_of n t) (λ r. m ≡ (added (item_of bus (own bus p) (pos i) children (bare r))).message) → new ≡ old ++ m ∷ []
    → new ≡ old ++ messages_asked heard (told_node bus p i children (option_map bare (row_of n t)))
told_pushed heard bus p i children n t m new old there c h e =
    let o = find-has (is_shape n) t.rows (count-has (is_shape n) t.rows there) in
    told_found heard bus p i children (row_of n t) o.0 m new old o.1 c h e

-- a node that went to another place
told_bare : (bus : List ℕ) (p i children : ℕ) (o : Option TreeRow) → told_node bus p i children (option_map bare (option_map shape o)) ≡ told_node bus p i children o
told_bare bus p i children None = refl
told_bare bus p i children (Some row) = refl

abbrev pub settled : List ℕ → ℕ → ℕ → ℕ → List Signal
settled bus n p i = property_changed n (codes "accessible-parent") (reference bus (path_of p)) ∷ child_changed bus p (codes "add") i n ∷ []

module _ (bus : List ℕ) (f : Forest TreeRow) (t : TreeShape) (n p i : ℕ) (e : shape_of f ≡ t.rows) (law : IsLawful t) (m : Moves shapes t.rows n p i) where
  abbrev goes : Forest TreeRow
  goes = after rows f (Move n p i)

  shape_goes : shape_of goes ≡ after shapes t.rows (Move n p i)
  shape_goes = shape_after f (Move n p i) ∙ ap (λ g. after shapes g (Move n p i)) e

  same_row : row_of n t ≡ option_map shape (find (is_node n) goes)
  same_row =
      let x = moved_first shapes t.rows t.added n p i law m in
      x.2.found ∙ sym x.3.found ∙ ap (find (is_shape n)) (sym shape_goes) ∙ find-relabel shape (is_shape n) (is_node n) (same_shape n) goes

  same_children : length (children_of n t) ≡ width (children_at (is_node n) goes)
  same_children =
      let x = moved_first shapes t.rows t.added n p i law m in
      width-numbers (children_at (is_shape n) t.rows) ∙ ap width (x.2.children ∙ sym x.3.children ∙ ap (children_at (is_shape n)) (sym shape_goes) ∙ shape-children n goes)
      ∙ shape-width (children_at (is_node n) goes)

  same_seat : seat_of shapes n t.rows ≡ seat_of rows n f
  same_seat = ap (seat_of shapes n) (sym e) ∙ shape-seat n f

  pub moved_told : told_node bus p i (length (children_of n t)) (option_map bare (row_of n t)) ++ left bus n (seat_of shapes n t.rows) ++ settled bus n p i
      ≡ announced bus f (Move n p i)
  moved_told =
      ap (λ k. told_node bus p i k (option_map bare (row_of n t)) ++ left bus n (seat_of shapes n t.rows) ++ settled bus n p i) same_children
      ∙ ap (λ o. told_node bus p i (width (children_at (is_node n) goes)) (option_map bare o) ++ left bus n (seat_of shapes n t.rows) ++ settled bus n p i) same_row
      ∙ ap (λ l. l ++ left bus n (seat_of shapes n t.rows) ++ settled bus n p i) (told_bare bus p i (width (children_at (is_node n) goes)) (find (is_node n) goes))
      ∙ ap (λ o. told_node bus p i (width (children_at (is_node n) goes)) (find (is_node n) goes) ++ left bus n o ++ settled bus n p i) same_seat

-- trees of one shape are told alike
bare_shape : (g : Forest ShapeRow) → shape_of (relabel bare g) ≡ g
bare_shape nil = refl
bare_shape (tree row c r) = ap (λ x. tree row x (shape_of (relabel bare r))) (bare_shape c) ∙ ap (λ x. tree row c x) (bare_shape r)

pub bare_removed : (bus : List ℕ) (t : TreeShape) (n : ℕ)
    → left bus n (seat_of shapes n t.rows) ++ map (λ (row : ShapeRow). removed bus row.node) (labels (pick (is_shape n) t.rows)) ≡ announced bus (without_contents t) (Remove n)
bare_removed bus t n = removed_told bus (without_contents t) t n (bare_shape t.rows)

pub bare_moved : (bus : List ℕ) (t : TreeShape) (n p i : ℕ) → IsLawful t → Moves shapes t.rows n p i
    → told_node bus p i (length (children_of n t)) (option_map bare (row_of n t)) ++ left bus n (seat_of shapes n t.rows) ++ settled bus n p i ≡ announced bus (without_contents t) (Move n p i)
bare_moved bus t n p i law m = moved_told bus (without_contents t) t n p i (bare_shape t.rows) law m

pub same_announced : (bus : List ℕ) (t : TreeShape) (step : Step) → IsLawful t → CanBeTold t step → (f : Forest TreeRow) → shape_of f ≡ t.rows
    → announced bus (without_contents t) step ≡ announced bus f step
same_announced bus t (Add n p i seed) law c f e = refl
same_announced bus t (Remove n) law c f e = sym (bare_removed bus t n) ∙ removed_told bus f t n e
same_announced bus t (Move n p i) law c f e = sym (bare_moved bus t n p i law c) ∙ moved_told bus f t n p i e law c
same_announced bus t (SetName n x) law c f e = refl
same_announced bus t (SetDescription n x) law c f e = refl
same_announced bus t (SetRole n x) law c f e = refl
same_announced bus t (SetState n state on) law c f e = refl
same_announced bus t (Insert n at x) law c f e = refl
same_announced bus t (Delete n at x) law c f e = refl
same_announced bus t (Caret n at) law c f e = refl
same_announced bus t (TextSelect n marks) law c f e = refl
same_announced bus t (Relate n kind targets) law c f e = refl
