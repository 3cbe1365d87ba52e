-- A text in one piece as contents.
use Rattle.std.specs.Prelude.{refl}
use Rattle.atspi_tree_model.specs.declared.contents.FaceData.{FaceData}
use Rattle.atspi_tree_model.specs.declared.contents.FaceData.TheVariants.{Chars}
use Rattle.atspi_tree_model.specs.declared.contents.FaceKind.TheVariants.{Chars as chars_kind}
use Rattle.atspi_faces.specs.face.Contents.{IsContents}
use Rattle.atspi_faces.specs.declared.plain.PlainChars.{PlainChars}

abbrev pub plain_data : PlainChars → FaceData
plain_data p = Chars p.text p.caret p.marks

pub plain_sound : (p : PlainChars) → IsContents chars_kind (plain_data p)
plain_sound p = record { of_kind = refl; caret_inside = p.inside; counted = p.counted }
