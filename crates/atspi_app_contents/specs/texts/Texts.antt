-- The texts of nodes as a face keeps them.
use Rattle.std.specs.Prelude.{◌≡◌, ℕ, Option, Some, []}
use Rattle.std.specs.Option.{option_map_or}
use Rattle.std.specs.FinMap.{get}
use Rattle.atspi_tree_model.specs.declared.contents.FaceData.{FaceData}
use Rattle.atspi_tree_model.specs.declared.contents.FaceData.TheVariants.{Chars, Deeds}
use Rattle.atspi_tree_model.specs.declared.contents.FaceKind.{FaceKind}
use Rattle.atspi_tree_model.specs.declared.contents.FaceKind.TheVariants.{Chars as chars_kind}
use Rattle.atspi_tree_model.specs.Row.{TextContents, IsText}
use Rattle.atspi_tree_model.specs.Edits.{known_text}
use Rattle.atspi_faces.specs.face.Nodes.{Nodes}

-- the text of a node, and an empty one where it has none
abbrev pub text_at : Nodes → ℕ → TextContents
text_at texts n = option_map_or known_text (get texts n) (record { characters = []; caret = 0; selections = [] })

-- the text as contents; no actions where there is none
abbrev pub text_or_none : Option FaceData → FaceData
text_or_none (Some (Chars text caret marks)) = Chars text caret marks
text_or_none _ = Deeds []

abbrev pub contents_at : Nodes → ℕ → FaceData
contents_at texts n = text_or_none (get texts n)

-- a face keeps texts, and that of a node is within its limits
pub record KeepsText (of_kind : FaceKind) (texts : Nodes) (n : ℕ) : Type 0 where
  pub kind : of_kind ≡ chars_kind
  pub lawful : IsText (text_at texts n)
