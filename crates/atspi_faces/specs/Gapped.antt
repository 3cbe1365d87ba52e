-- A text in a buffer with a gap as contents.
use Rattle.std.specs.Prelude.{refl}
use Rattle.atspi_tree_model.specs.declared.contents.FaceData.{FaceData}
use Rattle.atspi_tree_model.specs.declared.contents.FaceData.TheVariants.{Chars}
use Rattle.atspi_tree_model.specs.declared.contents.FaceKind.TheVariants.{Chars as chars_kind}
use Rattle.atspi_faces.specs.face.Contents.{IsContents}
use Rattle.atspi_faces.specs.declared.gapped.GapChars.{GapChars}

abbrev pub gap_data : GapChars → FaceData
gap_data p = Chars p.text p.caret p.marks

pub gap_sound : (p : GapChars) → IsContents chars_kind (gap_data p)
gap_sound p = record { of_kind = refl; caret_inside = p.inside; counted = p.counted }
