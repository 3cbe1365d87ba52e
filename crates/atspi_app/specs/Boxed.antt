-- What an application is seen as, where it is told of what kind a box is and what it keeps.
use Rattle.std.specs.declared.alloc.Global.{Global}
use Rattle.std.specs.declared.dyn_box.DynBox.{DynBox}
use Rattle.atspi_tree_model.specs.declared.contents.FaceKind.{FaceKind}
use Rattle.atspi_faces.specs.face.Nodes.{Nodes}
use Rattle.atspi_protocol.specs.exporting.Exporter.{Exporter}
use Rattle.atspi_protocol.specs.whole.Whole.{Faces}
use Rattle.atspi_app_exported.specs.Boxed.{IsExportedIn, faces_in, numbers_in, parts_in}
use Rattle.atspi_app_exported.specs.Parts.{Numbers}
use Rattle.atspi_app.specs.declared.app.App.{App}
use Rattle.atspi_app.specs.Seen.{seen}

abbrev pub exporter_in : {X : Type 0} {F : X → Type 0} → (DynBox X Global F → Nodes) → App X F → Exporter
exporter_in nodes app = seen (parts_in nodes app.exported) app.id app.known

-- so it is at any time
abbrev pub IsAppIn : {X : Type 0} {F : X → Type 0}
    → (DynBox X Global F → FaceKind) → (DynBox X Global F → Nodes) → App X F → Type 0
IsAppIn kind nodes app = IsExportedIn kind nodes app.exported

-- which boxes its contents lie in
abbrev pub boxes_in : {X : Type 0} {F : X → Type 0} → App X F → Numbers
boxes_in app = numbers_in app.exported.kit

-- the contents of its nodes
abbrev pub contents_in : {X : Type 0} {F : X → Type 0} → (DynBox X Global F → Nodes) → App X F → Faces
contents_in nodes app = faces_in nodes app.exported.kit
