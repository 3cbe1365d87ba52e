-- The selected children of a node, by their numbers.
use Rattle.std.proofs.Common.{◌≡◌, ◌+◌, ◌++◌, get_or, ℕ, suc, ℤ, Bool, true, false, cond, List, [], ◌∷◌, Option, map, length, refl, ap, ◌∙◌}
use Rattle.std.specs.Prelude.{filter, All}
use Rattle.std.proofs.lemmas.List.{length-append}
use Rattle.std.proofs.lemmas.List.Elements.{All-from_get_or, filter-append}
use Rattle.std.proofs.lemmas.Option.{slice_get-get_or}
use Rattle.std.specs.Option.{option_map_or}
use Rattle.atspi_tree_model.specs.Forest.{Forest, nil, tree, has, tops, children_at, EachNode}
use Rattle.atspi_tree_model.specs.Row.{ShapeRow, TreeRow}
use Rattle.atspi_tree_model.specs.States.{has_state, selected}
use Rattle.atspi_tree_model.specs.Tree.{is_shape}
use Rattle.atspi_tree.specs.TreeShape.{TreeShape, IsLawful, numbers, children_of}
use Rattle.atspi_tree.proofs.Walks.{child_there}
use Rattle.atspi_protocol.specs.whole.Whole.{Faces, filled}
use Rattle.atspi_protocol.specs.objects.Children as children
use Rattle.atspi_app_items.proofs.Known.{Known, each_known}
use Rattle.atspi_app_answers.specs.Seen.{seen}
use Rattle.atspi_app_answers.specs.inner.Selected.{is_selected_in}
use Rattle.atspi_app_answers.proofs.Seen.{children_seen}

each_below : (P : ShapeRow → Forest ShapeRow → Type 0) (p : ShapeRow → Bool) (f : Forest ShapeRow) → EachNode P f → EachNode P (children_at p f)
each_below P p nil e = tt
each_below P p (tree a c r) e = at (p a) (has p c) (each_below P p c e.1) (each_below P p r e.2)
  where
    at : (b d : Bool) → EachNode P (children_at p c) → EachNode P (children_at p r) → EachNode P (cond b c (cond d (children_at p c) (children_at p r)))
    at true d x y = e.1
    at false true x y = x
    at false false x y = y

one_more : {A B : Type 0} (b d : Bool) (x : A) (y : B) (xs : List A) (ys : List B) → d ≡ b → length xs ≡ length ys → length (cond b (x ∷ xs) xs) ≡ length (cond d (y ∷ ys) ys)
one_more true d x y xs ys e h = rw e (ap suc h)
one_more false d x y xs ys e h = rw e h

module _ (t : TreeShape) (faces : Faces) where
  same_count : (g : Forest ShapeRow) → EachNode (Known t.rows) g → length (filter children.is_selected (map (filled faces) (tops g))) ≡ length (filter (is_selected_in t) (numbers g))
  same_count nil k = refl
  same_count (tree a c r) k =
      one_more (has_state selected a.states) (is_selected_in t a.node) (filled faces a) a.node
      (filter children.is_selected (map (filled faces) (tops r))) (filter (is_selected_in t) (numbers r))
      (ap (λ (o : Option ShapeRow). option_map_or (λ (s : ShapeRow). has_state selected s.states) o false) k.0.found)
      (same_count r k.2)

  pub selected_seen : (name : List ℕ) (id : ℤ) → IsLawful t → (row : TreeRow)
      → length (children.selected_children (seen t faces name id) row) ≡ length (filter (is_selected_in t) (children_of row.shape.node t))
  selected_seen name id lawful row =
      ap (λ (rs : List TreeRow). length (filter children.is_selected rs)) (children_seen t faces name id row)
      ∙ same_count (children_at (is_shape row.shape.node) t.rows) (each_below (Known t.rows) (is_shape row.shape.node) t.rows (each_known t.rows lawful.once))

-- a node's children are there
pub all_there : (t : TreeShape) (n : ℕ) → IsLawful t → All (λ m. has (is_shape m) t.rows ≡ true) (children_of n t)
all_there t n lawful =
    All-from_get_or (λ m. has (is_shape m) t.rows ≡ true) (children_of n t) 0
    (λ i h. child_there t n i (get_or (children_of n t) i 0) lawful (slice_get-get_or (children_of n t) i 0 h))

-- one element more is counted where it passes
pub counted_more : (test : ℕ → Bool) (xs : List ℕ) (x : ℕ) → length (filter test (xs ++ x ∷ [])) ≡ length (filter test xs) + cond (test x) 1 0
counted_more test xs x = ap (λ (ys : List ℕ). length ys) (filter-append test xs (x ∷ [])) ∙ length-append (filter test xs) (filter test (x ∷ [])) ∙ ap (λ n. length (filter test xs) + n) (by (test x))
  where
    by : (b : Bool) → length (cond b (x ∷ []) []) ≡ cond b 1 0
    by true = refl
    by false = refl
