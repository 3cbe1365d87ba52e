-- The steps of an edit, by the tree and by the contents that are known.
use Rattle.std.proofs.Common.{◌≡◌, ℕ, ℤ, List, Option, Some, None, Result, Ok, Err, refl, ap, ◌∙◌}
use Rattle.std.specs.Prelude.{pos, negsuc}
use Rattle.std.specs.Option.{option_map}
use Rattle.atspi_tree_model.specs.declared.contents.FaceData.{FaceData}
use Rattle.atspi_tree_model.specs.declared.edit.Edit.{Edit}
use Rattle.atspi_tree_model.specs.declared.edit.EditFault.{EditFault}
use Rattle.atspi_tree_model.specs.declared.step.Step.{Step}
use Rattle.atspi_tree_model.specs.Forest.{find}
use Rattle.atspi_tree_model.specs.Row.{ShapeRow}
use Rattle.atspi_tree_model.specs.Tree.{is_shape, is_node}
use Rattle.atspi_tree_model.specs.Edits.{contents_read, steps_of, steps_of_tree}
use Rattle.atspi_tree_model.proofs.Lookup.{find-relabel}
use Rattle.atspi_tree.specs.TreeShape.{TreeShape, row_of}
use Rattle.atspi_tree_edits.specs.Answers.{edit_steps}
use Rattle.atspi_protocol.specs.whole.Whole.{Faces, whole, filled}
use Rattle.atspi_protocol.proofs.OfWhole.Followed.{shape_is_kept}
use Rattle.atspi_protocol.specs.objects.Application.{Application}
use Rattle.atspi_protocol.specs.objects.Changes.{edited, edited_at, edited_between}
use Rattle.atspi_app_contents.specs.values.Places.{place_of}
use Rattle.atspi_app_contents.specs.values.Seen.{seen}
use Rattle.atspi_app_contents.specs.changes.inner.Steps.{granted, at_place, at_places}

pub steps_granted : (a : Application) (edit : Edit) (r : Result (List Step) EditFault) → steps_of_tree a.tree a.added edit ≡ r → edited a edit ≡ granted r
steps_granted a edit (Ok steps) e = rw e refl
steps_granted a edit (Err fault) e = rw e refl

pub place_same : (f g : ℕ → Option (List Step)) → ((k : ℕ) → f k ≡ g k) → (o : Option ℕ) → at_place f o ≡ at_place g o
place_same f g e None = refl
place_same f g e (Some k) = e k

pub places_same : (f g : ℕ → ℕ → Option (List Step)) → ((k l : ℕ) → f k l ≡ g k l) → (o p : Option ℕ) → at_places f o p ≡ at_places g o p
places_same f g e None None = refl
places_same f g e None (Some l) = refl
places_same f g e (Some k) None = refl
places_same f g e (Some k) (Some l) = e k l

pub at_by : (a : Application) (edit : ℕ → Edit) (z : ℤ) → edited_at a edit z ≡ at_place (λ k. edited a (edit k)) (place_of z)
at_by a edit (pos n) = refl
at_by a edit (negsuc n) = refl

pub between_by : (a : Application) (edit : ℕ → ℕ → Edit) (y z : ℤ) → edited_between a edit y z ≡ at_places (λ k l. edited a (edit k l)) (place_of y) (place_of z)
between_by a edit (pos m) (pos n) = refl
between_by a edit (pos m) (negsuc n) = refl
between_by a edit (negsuc m) (pos n) = refl
between_by a edit (negsuc m) (negsuc n) = refl

module _ (t : TreeShape) (faces : Faces) (name : List ℕ) (id : ℤ) where
  pub found : (n : ℕ) (s : ShapeRow) → row_of n t ≡ Some s → find (is_node n) (whole t.rows faces) ≡ Some (filled faces s)
  found n s is = find-relabel (filled faces) (is_node n) (is_shape n) (λ s. refl) t.rows ∙ ap (option_map (filled faces)) is

  pub edited_is : (edit : Edit) (known : FaceData) → contents_read (whole t.rows faces) edit ≡ known → edited (seen t faces name id) edit ≡ granted (edit_steps t known edit)
  edited_is edit known e =
      steps_granted (seen t faces name id) edit (steps_of_tree (whole t.rows faces) t.added edit) refl
      ∙ ap (λ f. granted (steps_of f t.added (contents_read (whole t.rows faces) edit) edit)) (shape_is_kept t.rows faces)
      ∙ ap (λ (k : FaceData). granted (edit_steps t k edit)) e
