-- What is read in the tree alone is what the whole tree says.
use Rattle.std.proofs.Common.{◌≡◌, ℕ, suc, ℤ, List, [], ◌∷◌, Option, Some, None, map, length, refl, sym, ap, ◌∙◌}
use Rattle.std.specs.Prelude.{pos, negsuc, slice_get}
use Rattle.std.specs.Option.{option_map}
use Rattle.std.proofs.lemmas.Option.{slice_get-map}
use Rattle.atspi_types.specs.Data.{array_data, items_of}
use Rattle.atspi_tree_model.specs.Forest.{Forest, nil, tree, tops, children_at, relabel}
use Rattle.atspi_tree_model.specs.Row.{ShapeRow, TreeRow}
use Rattle.atspi_tree_model.specs.RowRules.{rows, shapes}
use Rattle.atspi_tree_model.specs.Tree.{is_shape, is_node, seat_of}
use Rattle.atspi_tree_model.proofs.Lookup.{children-relabel}
use Rattle.atspi_tree_model.proofs.Relabel.{renamed, place-relabel}
use Rattle.atspi_protocol.specs.ends.Places.{reference_kind}
use Rattle.atspi_protocol.specs.members.Arguments.{int}
use Rattle.atspi_tree.specs.TreeShape.{TreeShape, children_of}
use Rattle.atspi_protocol.specs.whole.Whole.{Faces, filled, whole}
use Rattle.atspi_protocol.specs.objects.Application.{Application}
use Rattle.atspi_protocol.specs.objects.Values.{row_reference, reference_or_null, references_data}
use Rattle.atspi_protocol.specs.objects.Children as children
use Rattle.atspi_app_answers.specs.Seen.{seen}
use Rattle.atspi_app_values.specs.Numbers.{numbered_reference, numbered_or_null, numbered_references, index_of, parent_of}

tops-relabel : {A B : Type 0} (h : A → B) (f : Forest A) → tops (relabel h f) ≡ map h (tops f)
tops-relabel h nil = refl
tops-relabel h (tree a c r) = ap (λ xs. h a ∷ xs) (tops-relabel h r)

same_seat : (o : Option (Option ℕ × ℕ)) → renamed (λ x. x) o ≡ o
same_seat None = refl
same_seat (Some s) = refl

abbrev pub numbers_of : List ShapeRow → List ℕ
numbers_of ss = map (λ (s : ShapeRow). s.node) ss

module _ (t : TreeShape) (faces : Faces) (name : List ℕ) (id : ℤ) where
  abbrev a : Application
  a = seen t faces name id

  -- the shapes of a node's children
  abbrev pub shapes_below : ℕ → List ShapeRow
  shapes_below n = tops (children_at (is_shape n) t.rows)

  pub children_seen : (row : TreeRow) → children.children_of a row ≡ map (filled faces) (shapes_below row.shape.node)
  children_seen row =
      ap (λ (f : Forest TreeRow). tops f) (children-relabel (filled faces) (is_node row.shape.node) (is_shape row.shape.node) (λ s. refl) t.rows)
      ∙ tops-relabel (filled faces) (children_at (is_shape row.shape.node) t.rows)

  refs_same : (ss : List ShapeRow) → map (row_reference a) (map (filled faces) ss) ≡ map (numbered_reference name) (numbers_of ss)
  refs_same [] = refl
  refs_same (s ∷ ss) = ap (λ ds. numbered_reference name s.node ∷ ds) (refs_same ss)

  pub references_seen : (row : TreeRow) → references_data a (children.children_of a row) ≡ numbered_references name (children_of row.shape.node t)
  references_seen row =
      ap (λ rs. array_data reference_kind (items_of (map (row_reference a) rs))) (children_seen row)
      ∙ ap (λ ds. array_data reference_kind (items_of ds)) (refs_same (shapes_below row.shape.node))

  or_null : (o : Option ShapeRow) → reference_or_null a (option_map (filled faces) o) ≡ numbered_or_null name (option_map (λ (s : ShapeRow). s.node) o)
  or_null None = refl
  or_null (Some s) = refl

  at_same : (z : ℤ) (ss : List ShapeRow) → reference_or_null a (children.at z (map (filled faces) ss)) ≡ numbered_or_null name (children.at z (numbers_of ss))
  at_same (pos i) ss =
      ap (reference_or_null a) (slice_get-map (filled faces) ss i) ∙ or_null (slice_get ss i)
      ∙ sym (ap (numbered_or_null name) (slice_get-map (λ (s : ShapeRow). s.node) ss i))
  at_same (negsuc i) ss = refl

  pub child_seen : (z : ℤ) (row : TreeRow) → reference_or_null a (children.at z (children.children_of a row)) ≡ numbered_or_null name (children.at z (children_of row.shape.node t))
  child_seen z row = ap (λ rs. reference_or_null a (children.at z rs)) (children_seen row) ∙ at_same z (shapes_below row.shape.node)

  pub seat_seen : (n : ℕ) → seat_of rows n (whole t.rows faces) ≡ seat_of shapes n t.rows
  seat_seen n = place-relabel (filled faces) (is_node n) (is_shape n) (λ s. refl) (λ x. x) _ _ (λ s. refl) None 0 t.rows ∙ same_seat (seat_of shapes n t.rows)

  pub index_seen : (row : TreeRow) → children.index_data a row ≡ int (index_of (seat_of shapes row.shape.node t.rows))
  index_seen row = by (seat_of shapes row.shape.node t.rows) (seat_seen row.shape.node)
    where
      by : (o : Option (Option ℕ × ℕ)) → seat_of rows row.shape.node (whole t.rows faces) ≡ o → children.index_data a row ≡ int (index_of o)
      by None e = rw e refl
      by (Some (None, i)) e = rw e refl
      by (Some (Some p, i)) e = rw e refl

  pub parent_seen : (row : TreeRow) → children.parent_data a row ≡ parent_of name (seat_of shapes row.shape.node t.rows)
  parent_seen row = by (seat_of shapes row.shape.node t.rows) (seat_seen row.shape.node)
    where
      by : (o : Option (Option ℕ × ℕ)) → seat_of rows row.shape.node (whole t.rows faces) ≡ o → children.parent_data a row ≡ parent_of name o
      by None e = rw e refl
      by (Some (None, i)) e = rw e refl
      by (Some (Some p, i)) e = rw e refl

  length_same : (ss : List ShapeRow) → length (map (filled faces) ss) ≡ length (numbers_of ss)
  length_same [] = refl
  length_same (s ∷ ss) = ap suc (length_same ss)

  pub count_seen : (row : TreeRow) → length (children.children_of a row) ≡ length (children_of row.shape.node t)
  count_seen row = ap (λ (rs : List TreeRow). length rs) (children_seen row) ∙ length_same (shapes_below row.shape.node)
