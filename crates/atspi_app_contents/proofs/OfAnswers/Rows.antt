-- What is told of rows, and of texts.
use Rattle.std.proofs.Common.{◌≡◌, ℕ, ℤ, List, [], Option, Some, None, refl, sym, ap, ◌∙◌}
use Rattle.std.specs.Prelude.{pos, negsuc, slice_get}
use Rattle.std.specs.FinMap.{get}
use Rattle.std.specs.Option.{option_map, option_map_or}
use Rattle.atspi_tree_model.specs.declared.contents.FaceData.{FaceData}
use Rattle.atspi_tree_model.specs.declared.contents.FaceData.TheVariants.{Chars, Grid, Deeds}
use Rattle.atspi_tree_model.specs.Row.{ShapeRow, TreeRow, TextContents}
use Rattle.atspi_tree_model.specs.Edits.{known_text}
use Rattle.atspi_tree.specs.TreeShape.{TreeShape}
use Rattle.atspi_protocol.specs.whole.Whole.{Faces, filled, as_text}
use Rattle.atspi_protocol.specs.objects.Application.{Application}
use Rattle.atspi_protocol.specs.objects.Values.{reference_or_null}
use Rattle.atspi_protocol.specs.objects.Children as children
use Rattle.atspi_protocol.specs.objects.Texts.{text_of}
use Rattle.atspi_app_values.specs.Numbers.{numbered_or_null}
use Rattle.atspi_app_contents.specs.texts.Texts.{text_at}
use Rattle.atspi_app_contents.specs.values.Seen.{seen}
use Rattle.atspi_app_contents.proofs.OfValues.Seen.{numbers_of, get_same}

-- the text of a row, as a face has it
abbrev text_there : Option TextContents → TextContents
text_there None = record { characters = []; caret = 0; selections = [] }
text_there (Some text) = text

pub text_seen : (faces : Faces) (s : ShapeRow) → text_of (filled faces s) ≡ text_at faces.chars s.node
text_seen faces s = by (get faces.chars s.node)
  where
    by : (o : Option FaceData) → text_there (as_text o) ≡ option_map_or known_text o (record { characters = []; caret = 0; selections = [] })
    by None = refl
    by (Some (Chars text caret marks)) = refl
    by (Some (Grid k)) = refl
    by (Some (Deeds names)) = refl

module _ (t : TreeShape) (faces : Faces) (name : List ℕ) (id : ℤ) where
  abbrev a : Application
  a = seen t faces name id

  -- one of some rows, as it is told
  or_null : (o : Option TreeRow) → reference_or_null a o ≡ numbered_or_null name (option_map (λ (r : TreeRow). r.shape.node) o)
  or_null None = refl
  or_null (Some r) = refl

  pub told_get : (rs : List TreeRow) (i : ℕ) → reference_or_null a (slice_get rs i) ≡ numbered_or_null name (slice_get (numbers_of rs) i)
  told_get rs i = or_null (slice_get rs i) ∙ sym (ap (numbered_or_null name) (get_same rs i))

  pub told_at : (rs : List TreeRow) (z : ℤ) → reference_or_null a (children.at z rs) ≡ numbered_or_null name (children.at z (numbers_of rs))
  told_at rs (pos i) = told_get rs i
  told_at rs (negsuc i) = refl
