-- The rows at all places are those of the view.
use Rattle.std.proofs.Common.{◌≡◌, ℕ, suc, ◌≤◌, true, Option, Some, None, List, [], ◌∷◌, ◌++◌, map, refl, sym, ap, ◌∙◌, subst, arith, append_assoc}
use Rattle.std.specs.Prelude.{◌==◌}
use Rattle.std.specs.Option.{option_map}
use Rattle.std.proofs.lemmas.Bool.{eqb-true}
use Rattle.std.proofs.lemmas.Bool.Decides.{nat_tests}
use Rattle.std.proofs.lemmas.Grind.{flat_map-append}
use Rattle.std.proofs.lemmas.List.{map-append}
use Rattle.atspi_tree_model.specs.declared.view.NumPart.{NumPart}
use Rattle.atspi_tree_model.specs.declared.view.Part.{Part}
use Rattle.atspi_tree_model.specs.declared.view.Row.{Row}
use Rattle.atspi_tree_model.specs.Forest.{Forest, nil, tree, count, has, find, seats, EachLabel}
use Rattle.atspi_tree_model.specs.Row.{ShapeRow, TreeRow}
use Rattle.atspi_tree_model.specs.RowRules.{rows}
use Rattle.atspi_tree_model.specs.Tree.{IsTree, is_node, is_shape, shape_of}
use Rattle.atspi_tree_model.specs.Path.{path_of}
use Rattle.atspi_tree_model.specs.View.{Told, caret_of, characters_of, kinds_number, number_part, shown, text_part, view}
use Rattle.atspi_tree_model.proofs.Found.{count-has, find-has, find-none, find-only, find-passes, none_passes}
use Rattle.atspi_tree_model.proofs.Lookup.{find-relabel}
use Rattle.atspi_tree_model.proofs.ShapeOf.{same_shape, shape-has}
use Rattle.atspi_tree.specs.Seats.{seat_at, seats_in}
use Rattle.atspi_tree.specs.TreeShape.{TreeShape, row_of}
use Rattle.atspi_tree.specs.declared.seats.Seat.{Seat}
use Rattle.atspi_trace_events.specs.declared.shown.ShownRow.{ShownRow}
use Rattle.atspi_trace.specs.Causes.{shown_row, shown_rows}
use Rattle.atspi_whole_tree.specs.Whole.{AppTree, row_in, shape_in}
use Rattle.atspi_audit_held.specs.Held.{Agrees, Holds, told_by}
use Rattle.atspi_audit_held.specs.declared.known.Known.{Known}
use Rattle.atspi_audit_held.specs.inner.Rows.{place_row, row_there, place_rows}
use Rattle.atspi_audit_held.proofs.Knowing.{numbered}

-- each node is found by its number
abbrev Is : Option TreeRow → TreeRow → Type 0
Is None a = ⊥
Is (Some x) a = a ≡ x

abbrev All : ℕ → Option TreeRow → Forest TreeRow → Type 0
All n o f = EachLabel (λ a. is_node n a ≡ true → Is o a) f

members : (f g : Forest TreeRow) → ((n : ℕ) (o : Option TreeRow) → All n o g → All n o f)
    → EachLabel (λ (row : TreeRow). (n : ℕ) (o : Option TreeRow) → All n o g → is_node n row ≡ true → Is o row) f
members nil g incl = tt
members (tree a c r) g incl = (λ n o e. (incl n o e).0, members c g (λ n o e. (incl n o e).1), members r g (λ n o e. (incl n o e).2))

itself : (n : ℕ) → (n == n) ≡ true
itself n = grind (arith, nat_tests)

each_map : (P Q : TreeRow → Type 0) → ((a : TreeRow) → P a → Q a) → (f : Forest TreeRow) → EachLabel P f → EachLabel Q f
each_map P Q w nil e = tt
each_map P Q w (tree a c r) e = (w a e.0, each_map P Q w c e.1, each_map P Q w r e.2)

found_row : (g : Forest TreeRow) → ((n : ℕ) → count (is_node n) g ≤ 1) → (row : TreeRow)
    → ((n : ℕ) (o : Option TreeRow) → All n o g → is_node n row ≡ true → Is o row) → find (is_node row.shape.node) g ≡ Some row
found_row g once row m = at (find (is_node row.shape.node) g) refl
  where
    at : (o : Option TreeRow) → find (is_node row.shape.node) g ≡ o → find (is_node row.shape.node) g ≡ Some row
    at None e = absurd (m row.shape.node None (none_passes (is_node row.shape.node) (λ a. ⊥) g (find-none (is_node row.shape.node) g e)) (itself row.shape.node))
    at (Some x) e =
        e ∙ ap Some (sym (m row.shape.node (Some x) (find-only (is_node row.shape.node) g x (once row.shape.node) e) (itself row.shape.node)))

pub all_found : (g : Forest TreeRow) → ((n : ℕ) → count (is_node n) g ≤ 1) → EachLabel (λ (row : TreeRow). find (is_node row.shape.node) g ≡ Some row) g
all_found g once =
    each_map (λ row. (n : ℕ) (o : Option TreeRow) → All n o g → is_node n row ≡ true → Is o row) (λ row. find (is_node row.shape.node) g ≡ Some row)
    (found_row g once) g (members g g (λ n o e. e))

-- the rows of a forest at their places
pub record Seen (by_path : List ℕ → Told) (told : ℕ → Told) (t : AppTree) (row : TreeRow) : Type 0 where
  pub found : row_in row.shape.node t ≡ Some row
  pub told_so : by_path (path_of row.shape.node) ≡ told row.shape.node

module _ (by_path : List ℕ → Told) (told : ℕ → Told) (t : AppTree) where
  abbrev places : Option ℕ → ℕ → Forest TreeRow → List Seat
  places up i f = map seat_at (seats (λ (row : ShapeRow). Some row.node) up i (shape_of f))

  abbrev shows : Option ℕ → ℕ → Forest TreeRow → List ShownRow
  shows up i f = map shown_row (seats (λ (row : Row). Some row.path) (option_map path_of up) i (view by_path f))

  here : (row : TreeRow) (up : Option ℕ) (i : ℕ) → Seen by_path told t row
      → row_there told (record { node = row.shape.node; parent = up; index = i }) (row_in row.shape.node t) ≡ shown_row (option_map path_of up, i, shown by_path row) ∷ []
  here row up i s =
      ap (row_there told (record { node = row.shape.node; parent = up; index = i })) s.found
      ∙ ap (λ (x : Told). shown_row (option_map path_of up, i, shown (λ path. x) row) ∷ []) (sym s.told_so)

  pub shown_places : (f : Forest TreeRow) (up : Option ℕ) (i : ℕ) → EachLabel (Seen by_path told t) f → place_rows told t (places up i f) ≡ shows up i f
  shown_places nil up i s = refl
  shown_places (tree a c r) up i s =
      ap (λ (ss : List Seat). place_rows told t (record { node = a.shape.node; parent = up; index = i } ∷ ss))
      (map-append seat_at (seats (λ (row : ShapeRow). Some row.node) (Some a.shape.node) 0 (shape_of c)) (seats (λ (row : ShapeRow). Some row.node) up (suc i) (shape_of r)))
      ∙ ap (λ (x : List ShownRow). x ++ place_rows told t (places (Some a.shape.node) 0 c ++ places up (suc i) r)) (here a up i s.0)
      ∙ ap (λ (x : List ShownRow). shown_row (option_map path_of up, i, shown by_path a) ∷ x)
      (flat_map-append (λ (seat : Seat). row_there told seat (row_in seat.node t)) (places (Some a.shape.node) 0 c) (places up (suc i) r)
      ∙ ap (λ (x : List ShownRow). x ++ place_rows told t (places up (suc i) r)) (shown_places c (Some a.shape.node) 0 s.1)
      ∙ ap (λ (x : List ShownRow). shows (Some a.shape.node) 0 c ++ x) (shown_places r up (suc i) s.2)
      ∙ sym (map-append shown_row (seats (λ (row : Row). Some row.path) (Some (path_of a.shape.node)) 0 (view by_path c)) (seats (λ (row : Row). Some row.path) (option_map path_of up) (suc i) (view by_path r))))

  seen_each : (f : Forest TreeRow) → EachLabel (λ (row : TreeRow). row_in row.shape.node t ≡ Some row) f → EachLabel (λ (row : TreeRow). by_path (path_of row.shape.node) ≡ told row.shape.node) f
      → EachLabel (Seen by_path told t) f
  seen_each nil a b = tt
  seen_each (tree x c r) a b = (record { found = a.0; told_so = b.0 }, seen_each c a.1 b.1, seen_each r a.2 b.2)

pub shown_all : (by_path : List ℕ → Told) (told : ℕ → Told) (t : AppTree) → IsTree rows t.forest t.added → Agrees by_path told
    → place_rows told t (seats_in (shape_in t)) ≡ shown_rows (view by_path t.forest)
shown_all by_path told t law agree =
    shown_places by_path told t t.forest None 0
    (seen_each by_path told t t.forest (all_found t.forest law.once)
    (each_map (λ (row : TreeRow). row.shape.node ≤ t.added) (λ (row : TreeRow). by_path (path_of row.shape.node) ≡ told row.shape.node)
    (λ row l. agree row.shape.node (let few = law.few_ever in omega arith)) t.forest (numbered t.forest t.added law.numbered)))

-- what is read of a node is what its row has
found_shape : (t : AppTree) (n : ℕ) (row : TreeRow) (s : TreeShape) → s ≡ shape_in t → row_in n t ≡ Some row → row_of n s ≡ Some row.shape
found_shape t n row s e f =
    ap (row_of n) e ∙ find-relabel (λ (row : TreeRow). row.shape) (is_shape n) (is_node n) (same_shape n) t.forest ∙ ap (option_map (λ (row : TreeRow). row.shape)) f

some_is : {A : Type 0} (x y : A) → Some x ≡ Some y → x ≡ y
some_is x y e = cc

pub read_by : {A : Type 0} (F : ShapeRow → A) (t : AppTree) (n : ℕ) (row : TreeRow) (x : A) (s : TreeShape) → s ≡ shape_in t → row_in n t ≡ Some row
    → option_map F (row_of n s) ≡ Some x → x ≡ F row.shape
read_by F t n row x s e f h = sym (some_is (F row.shape) x (sym (ap (option_map F) (found_shape t n row s e f)) ∙ h))

pub contents_by : {A : Type 0} (F : TreeRow → A) (t : AppTree) (n : ℕ) (row : TreeRow) (x : A) → row_in n t ≡ Some row → option_map F (row_in n t) ≡ Some x → x ≡ F row
contents_by F t n row x f h = sym (some_is (F row) x (sym (ap (option_map F) f) ∙ h))

pub number_by : (t : AppTree) (n : ℕ) (row : TreeRow) → row_in n t ≡ Some row → n ≡ row.shape.node
number_by t n row f = sym (eqb-true row.shape.node n (find-passes (is_node n) t.forest row f).0)

-- a row by its fields
pub row_by : (told : Told) (row : TreeRow) (path name description : List ℕ) (role states faces : ℕ) (text : Option (List ℕ)) (caret columns : Option ℕ) (t : Part) (c k : NumPart)
    → path ≡ path_of row.shape.node → name ≡ row.shape.name → description ≡ row.shape.description → role ≡ row.shape.role → states ≡ row.shape.states
    → faces ≡ kinds_number row.shape.kinds → text ≡ characters_of row.contents.text → caret ≡ caret_of row.contents.text → columns ≡ row.contents.columns
    → t ≡ text_part told.text text → c ≡ number_part told.caret caret → k ≡ number_part told.columns columns
    → ◌≡◌ {A = Row} (record { path = path; name = name; description = description; role = role; states = states; faces = faces; text = t; caret = c; columns = k })
    (shown (λ path. told) row)
row_by told row path name description role states faces text caret columns t c k p n d r s f x y z u v w = λ i. record {
  path = p i;
  name = n i;
  description = d i;
  role = r i;
  states = s i;
  faces = f i;
  text = (u ∙ ap (text_part told.text) x) i;
  caret = (v ∙ ap (number_part told.caret) y) i;
  columns = (w ∙ ap (number_part told.columns) z) i;
}

pub shape_there : (t : AppTree) (n : ℕ) (s : TreeShape) → s ≡ shape_in t → has (is_node n) t.forest ≡ true → has (is_shape n) s.rows ≡ true
shape_there t n s e h = ap (λ (s : TreeShape). has (is_shape n) s.rows) e ∙ shape-has n t.forest ∙ h

-- a place of a shape is one of the whole tree
pub place_there : (t : AppTree) (n : ℕ) (s : TreeShape) → s ≡ shape_in t → has (is_shape n) s.rows ≡ true → has (is_node n) t.forest ≡ true
place_there t n s e h = sym (shape-has n t.forest) ∙ sym (ap (λ (s : TreeShape). has (is_shape n) s.rows) e) ∙ h

pub row_found : (t : AppTree) (n : ℕ) → has (is_node n) t.forest ≡ true → (row : TreeRow) × (row_in n t ≡ Some row)
row_found t n h = find-has (is_node n) t.forest (count-has (is_node n) t.forest h)

-- rows one after another
pub rows_more : (told : ℕ → Told) (t : AppTree) (done next : List ShownRow) (seat : Seat) (left rest : List Seat) (row : TreeRow) (item : ShownRow) (all : List ShownRow)
    → left ≡ seat ∷ rest → row_in seat.node t ≡ Some row → item ≡ place_row told seat row → next ≡ done ++ item ∷ []
    → done ++ place_rows told t left ≡ all → next ++ place_rows told t rest ≡ all
rows_more told t done next seat left rest row item all e f is step h =
    ap (λ (d : List ShownRow). d ++ place_rows told t rest) step
    ∙ append_assoc done (item ∷ []) (place_rows told t rest)
    ∙ ap (λ (x : ShownRow). done ++ x ∷ place_rows told t rest) is
    ∙ sym (ap (λ (o : Option TreeRow). done ++ (row_there told seat o ++ place_rows told t rest)) f)
    ∙ ap (λ (ss : List Seat). done ++ place_rows told t ss) (sym e) ∙ h

pub shown_by : (by_path : List ℕ → Told) (h : Holds) (t : AppTree) (entries : List (ℕ × Known)) (items : List ShownRow) → ◌≡◌ {A = Holds} (record { tree = t; told = entries }) h
    → IsTree rows t.forest t.added → items ≡ place_rows (told_by entries) t (seats_in (shape_in t)) → Agrees by_path (told_by h.told)
    → items ≡ shown_rows (view by_path h.tree.forest)
shown_by by_path h t entries items e law is agree =
    subst (λ (h : Holds). Agrees by_path (told_by h.told) → items ≡ shown_rows (view by_path h.tree.forest)) e
    (λ agree. is ∙ shown_all by_path (told_by entries) t law agree) agree
