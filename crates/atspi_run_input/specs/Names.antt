-- The names of an edit's refusals.
use Rattle.std.specs.Prelude.{ℕ, List, codes}
use Rattle.atspi_tree_model.specs.declared.edit.EditFault.{EditFault}
use Rattle.atspi_tree_model.specs.declared.edit.EditFault.TheVariants.{NoNode, IsRoot, NoFace, BadIndex, BadOffset}
use Rattle.atspi_tree_model.specs.declared.edit.EditFault.TheVariants.{Cycle, Full, TextFull}

abbrev pub edit_fault_name : EditFault → List ℕ
edit_fault_name NoNode = codes "NoNode"
edit_fault_name IsRoot = codes "IsRoot"
edit_fault_name NoFace = codes "NoFace"
edit_fault_name BadIndex = codes "BadIndex"
edit_fault_name BadOffset = codes "BadOffset"
edit_fault_name Cycle = codes "Cycle"
edit_fault_name Full = codes "Full"
edit_fault_name TextFull = codes "TextFull"
