-- What is read in the tree alone is what the whole tree says.
use Rattle.std.proofs.Common.{◌≡◌, ℕ, zero, suc, ℤ, Bool, true, false, cond, List, [], ◌∷◌, Some, map, length, take, drop, refl, sym, ap, subst, ◌∙◌}
use Rattle.std.specs.Prelude.{pos, negsuc, slice_get, filter, ◌&&◌}
use Rattle.std.specs.List.{list_all}
use Rattle.std.specs.Option.{option_map}
use Rattle.std.proofs.lemmas.Bool.{eqb-true}
use Rattle.std.proofs.lemmas.List.{take-map, drop-map}
use Rattle.std.proofs.lemmas.Option.{slice_get-map}
use Rattle.atspi_tree_model.specs.Forest.{Forest, nil, tree, tops, children_at, relabel}
use Rattle.atspi_tree_model.specs.Row.{ShapeRow, TreeRow, Each}
use Rattle.atspi_tree_model.specs.States.{has_state}
use Rattle.atspi_tree_model.specs.Tree.{is_shape, is_node}
use Rattle.atspi_tree_model.proofs.Found.{find-passes}
use Rattle.atspi_tree_model.proofs.Lookup.{children-relabel}
use Rattle.atspi_tree.specs.TreeShape.{TreeShape, IsLawful, row_of, children_of}
use Rattle.atspi_protocol.specs.whole.Whole.{Faces, filled}
use Rattle.atspi_protocol.specs.objects.Application.{Application}
use Rattle.atspi_protocol.specs.objects.Children as children
use Rattle.atspi_app_contents.specs.values.Numbers.{is_selected, is_selected_there, selected_among}
use Rattle.atspi_app_contents.specs.values.Seen.{seen}
use Rattle.atspi_app_contents.proofs.OfValues.Found.{states_found}

tops-relabel : {A B : Type 0} (h : A → B) (f : Forest A) → tops (relabel h f) ≡ map h (tops f)
tops-relabel h nil = refl
tops-relabel h (tree a c r) = ap (λ xs. h a ∷ xs) (tops-relabel h r)

pub found_number : (t : TreeShape) (n : ℕ) (s : ShapeRow) → row_of n t ≡ Some s → s.node ≡ n
found_number t n s e = eqb-true s.node n (find-passes (is_shape n) t.rows s e).0

-- rows by their numbers
abbrev pub numbers_of : List TreeRow → List ℕ
numbers_of rs = map (λ (r : TreeRow). r.shape.node) rs

-- a row is selected as its number says
abbrev pub Same : Forest ShapeRow → TreeRow → Type 0
Same f r = children.is_selected r ≡ is_selected f r.shape.node

pub length_same : (rs : List TreeRow) → length rs ≡ length (numbers_of rs)
length_same [] = refl
length_same (r ∷ rs) = ap suc (length_same rs)

pub get_same : (rs : List TreeRow) (i : ℕ) → slice_get (numbers_of rs) i ≡ option_map (λ (r : TreeRow). r.shape.node) (slice_get rs i)
get_same rs i = slice_get-map (λ (r : TreeRow). r.shape.node) rs i

pub selected_same : (f : Forest ShapeRow) (rs : List TreeRow) → Each (Same f) rs → numbers_of (filter children.is_selected rs) ≡ selected_among f (numbers_of rs)
selected_same f [] h = refl
selected_same f (r ∷ rs) h = by (children.is_selected r) (is_selected f r.shape.node) h.0 (selected_same f rs h.1)
  where
    by : (b d : Bool) → b ≡ d → numbers_of (filter children.is_selected rs) ≡ selected_among f (numbers_of rs)
        → numbers_of (cond b (r ∷ filter children.is_selected rs) (filter children.is_selected rs)) ≡ cond d (r.shape.node ∷ selected_among f (numbers_of rs)) (selected_among f (numbers_of rs))
    by true true e i = ap (λ (l : List ℕ). r.shape.node ∷ l) i
    by false false e i = i
    by true false e i = cc
    by false true e i = cc

pub there_same : (f : Forest ShapeRow) (rs : List TreeRow) → Each (Same f) rs → (i : ℕ) → children.is_there_selected (slice_get rs i) ≡ is_selected_there f (slice_get (numbers_of rs) i)
there_same f [] h i = refl
there_same f (r ∷ rs) h zero = h.0
there_same f (r ∷ rs) h (suc i) = there_same f rs h.1 i

pub at_same : (f : Forest ShapeRow) (rs : List TreeRow) → Each (Same f) rs → (z : ℤ) → children.is_there_selected (children.at z rs) ≡ is_selected_there f (children.at z (numbers_of rs))
at_same f rs h (pos i) = there_same f rs h i
at_same f rs h (negsuc i) = refl

pub all_same : (f : Forest ShapeRow) (rs : List TreeRow) → Each (Same f) rs → list_all children.is_selected rs ≡ list_all (is_selected f) (numbers_of rs)
all_same f [] h = refl
all_same f (r ∷ rs) h = ap (λ b. b && list_all children.is_selected rs) h.0 ∙ ap (λ b. is_selected f r.shape.node && b) (all_same f rs h.1)

pub part_same : (rs : List TreeRow) (k m : ℕ) → numbers_of (take k (drop m rs)) ≡ take k (drop m (numbers_of rs))
part_same rs k m =
    sym (take-map (λ (r : TreeRow). r.shape.node) k (drop m rs))
    ∙ ap (λ (l : List ℕ). take k l) (sym (drop-map (λ (r : TreeRow). r.shape.node) m rs))

module _ (t : TreeShape) (faces : Faces) (name : List ℕ) (id : ℤ) where
  abbrev a : Application
  a = seen t faces name id

  abbrev shapes_below : ℕ → List ShapeRow
  shapes_below n = tops (children_at (is_shape n) t.rows)

  children_seen : (row : TreeRow) → children.children_of a row ≡ map (filled faces) (shapes_below row.shape.node)
  children_seen row =
      ap (λ (f : Forest TreeRow). tops f) (children-relabel (filled faces) (is_node row.shape.node) (is_shape row.shape.node) (λ s. refl) t.rows)
      ∙ tops-relabel (filled faces) (children_at (is_shape row.shape.node) t.rows)

  numbers_filled : (ss : List ShapeRow) → numbers_of (map (filled faces) ss) ≡ map (λ (s : ShapeRow). s.node) ss
  numbers_filled [] = refl
  numbers_filled (s ∷ ss) = ap (λ (l : List ℕ). s.node ∷ l) (numbers_filled ss)

  -- the children of a row, by their numbers
  pub kids_seen : (row : TreeRow) → numbers_of (children.children_of a row) ≡ children_of row.shape.node t
  kids_seen row = ap numbers_of (children_seen row) ∙ numbers_filled (shapes_below row.shape.node)

  pub count_seen : (row : TreeRow) → length (children.children_of a row) ≡ length (children_of row.shape.node t)
  count_seen row = length_same (children.children_of a row) ∙ ap (λ (l : List ℕ). length l) (kids_seen row)

  -- and whether they are selected
  pub kids_same : IsLawful t → (row : TreeRow) → Each (Same t.rows) (children.children_of a row)
  kids_same lawful row =
      let P : List TreeRow → Type 0 = λ rs. Each (Same t.rows) rs in
      subst P (sym (children_seen row)) (by (shapes_below row.shape.node) (states_found t row.shape.node 23 lawful))
    where
      by : (ss : List ShapeRow) → Each (λ (b : ShapeRow). has_state 23 b.states ≡ is_selected t.rows b.node) ss → Each (Same t.rows) (map (filled faces) ss)
      by [] h = tt
      by (s ∷ ss) h = (h.0, by ss h.1)

  pub chosen_seen : IsLawful t → (row : TreeRow) → numbers_of (children.selected_children a row) ≡ selected_among t.rows (children_of row.shape.node t)
  chosen_seen lawful row = selected_same t.rows (children.children_of a row) (kids_same lawful row) ∙ ap (selected_among t.rows) (kids_seen row)
