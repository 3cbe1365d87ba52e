-- Names of actions as contents.
use Rattle.std.specs.Prelude.{refl}
use Rattle.std.proofs.Common.{arith}
use Rattle.atspi_tree_model.specs.declared.contents.FaceData.{FaceData}
use Rattle.atspi_tree_model.specs.declared.contents.FaceData.TheVariants.{Deeds}
use Rattle.atspi_tree_model.specs.declared.contents.FaceKind.TheVariants.{Deeds as deeds_kind}
use Rattle.atspi_faces.specs.face.Contents.{IsContents}
use Rattle.atspi_faces.specs.declared.actions.Actions.{Actions}

abbrev pub actions_data : Actions → FaceData
actions_data a = Deeds a.names

pub actions_sound : (a : Actions) → IsContents deeds_kind (actions_data a)
actions_sound a = record { of_kind = refl; caret_inside = omega arith; counted = a.counted }
