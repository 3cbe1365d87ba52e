-- What lies in boxes, where it is told of what kind a box is and what it keeps.
use Rattle.std.specs.declared.alloc.Global.{Global}
use Rattle.std.specs.declared.dyn_box.DynBox.{DynBox}
use Rattle.atspi_tree_model.specs.declared.contents.FaceKind.{FaceKind}
use Rattle.atspi_faces.specs.face.Boxes.{box_number}
use Rattle.atspi_faces.specs.face.Nodes.{Nodes}
use Rattle.atspi_protocol.specs.whole.Whole.{Faces}
use Rattle.atspi_app_exported.specs.declared.exported.Exported.{Exported}
use Rattle.atspi_app_exported.specs.declared.kit.Kit.{Kit}
use Rattle.atspi_app_exported.specs.Parts.{IsExported, Kinds, Numbers, Parts, faces_of, kinds_of, numbers_of, parts}

-- the kinds of three boxes, and what they keep
abbrev pub kinds_in : {X : Type 0} {F : X → Type 0} → (DynBox X Global F → FaceKind) → Kit X F → Kinds
kinds_in kind kit = kinds_of (kind kit.chars) (kind kit.grid) (kind kit.deeds)

abbrev pub faces_in : {X : Type 0} {F : X → Type 0} → (DynBox X Global F → Nodes) → Kit X F → Faces
faces_in nodes kit = faces_of (nodes kit.chars) (nodes kit.grid) (nodes kit.deeds)

-- which three boxes they are
abbrev pub numbers_in : {X : Type 0} {F : X → Type 0} → Kit X F → Numbers
numbers_in kit = numbers_of (box_number kit.chars) (box_number kit.grid) (box_number kit.deeds)

-- the parts of what is exported
abbrev pub parts_in : {X : Type 0} {F : X → Type 0} → (DynBox X Global F → Nodes) → Exported X F → Parts
parts_in nodes e = parts e.tree (faces_in nodes e.kit)

-- what holds of it at any time
abbrev pub IsExportedIn : {X : Type 0} {F : X → Type 0}
    → (DynBox X Global F → FaceKind) → (DynBox X Global F → Nodes) → Exported X F → Type 0
IsExportedIn kind nodes e = IsExported (kinds_in kind e.kit) (parts_in nodes e)
