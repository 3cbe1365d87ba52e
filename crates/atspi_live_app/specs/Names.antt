-- The names of refusals.
use Rattle.std.specs.Prelude.{ℕ, List, [], ◌∷◌, ◌++◌, codes}
use Rattle.std.specs.Fmt.{decimal}
use Rattle.atspi_tree_model.specs.declared.edit.EditFault.{EditFault}
use Rattle.atspi_tree_model.specs.declared.edit.EditFault.TheVariants.{NoNode, IsRoot, NoFace, BadIndex, BadOffset}
use Rattle.atspi_tree_model.specs.declared.edit.EditFault.TheVariants.{Cycle, Full, TextFull}
use Rattle.atspi_live_app.specs.declared.naming.Refused as refused
use Rattle.atspi_live_app.specs.declared.naming.Refused.TheVariants.{Long, NotUtf8, Form, Edit}

-- the refusals of an edit
abbrev pub edit_fault_name : EditFault → List ℕ
edit_fault_name NoNode = codes "NoNode"
edit_fault_name IsRoot = codes "IsRoot"
edit_fault_name NoFace = codes "NoFace"
edit_fault_name BadIndex = codes "BadIndex"
edit_fault_name BadOffset = codes "BadOffset"
edit_fault_name Cycle = codes "Cycle"
edit_fault_name Full = codes "Full"
edit_fault_name TextFull = codes "TextFull"

abbrev pub refused_name : refused.Refused → List ℕ
refused_name Long = codes "Long"
refused_name NotUtf8 = codes "NotUtf8"
refused_name Form = codes "Form"
refused_name (Edit why) = edit_fault_name why

-- `refused LINE NAME`, lines counted from 1
abbrev pub refused_text : ℕ → refused.Refused → List ℕ
refused_text number why = codes "refused " ++ decimal number ++ codes " " ++ refused_name why ++ 10 ∷ []
