-- The names of refusals, and why bytes are refused as a line.
use Rattle.std.specs.Prelude.{ℕ, List, [], ◌∷◌, ◌++◌, Err, codes}
use Rattle.std.specs.Fmt.{decimal}
use Rattle.atspi_tree_model.specs.declared.edit.EditFault.{EditFault}
use Rattle.atspi_tree_model.specs.declared.edit.EditFault.TheVariants.{NoNode, IsRoot, NoFace, BadIndex, BadOffset}
use Rattle.atspi_tree_model.specs.declared.edit.EditFault.TheVariants.{Cycle, Full, TextFull}
use Rattle.atspi_script_lines.specs.declared.line.Line.{Line}
use Rattle.atspi_script_lines.specs.declared.line.LineFault.TheVariants as line
use Rattle.atspi_script_lines.specs.Line.{ReadsLine, Spells}
use Rattle.atspi_world_parties.specs.declared.refusing.Refusal.{Refusal}
use Rattle.atspi_world_parties.specs.declared.refusing.Refusal.TheVariants.{NoParty, Dead, NoKit, NoReader, NoSpare}
use Rattle.atspi_world_parties.specs.declared.refusing.Refusal.TheVariants.{Late, NotHeld, Edit}
use Rattle.atspi_run_replay.specs.declared.naming.Refused as refused
use Rattle.atspi_run_replay.specs.declared.naming.Refused.TheVariants.{Long, NotUtf8, Form, World}

-- the refusals of an edit
abbrev pub edit_fault_name : EditFault → List ℕ
edit_fault_name NoNode = codes "NoNode"
edit_fault_name IsRoot = codes "IsRoot"
edit_fault_name NoFace = codes "NoFace"
edit_fault_name BadIndex = codes "BadIndex"
edit_fault_name BadOffset = codes "BadOffset"
edit_fault_name Cycle = codes "Cycle"
edit_fault_name Full = codes "Full"
edit_fault_name TextFull = codes "TextFull"

-- those of a world
abbrev pub refusal_name : Refusal → List ℕ
refusal_name NoParty = codes "NoParty"
refusal_name Dead = codes "Dead"
refusal_name NoKit = codes "NoKit"
refusal_name NoReader = codes "NoReader"
refusal_name NoSpare = codes "NoSpare"
refusal_name Late = codes "Late"
refusal_name NotHeld = codes "NotHeld"
refusal_name (Edit why) = edit_fault_name why

-- all of them
abbrev pub refused_name : refused.Refused → List ℕ
refused_name Long = codes "Long"
refused_name NotUtf8 = codes "NotUtf8"
refused_name Form = codes "Form"
refused_name (World why) = refusal_name why

-- `refused LINE NAME`, lines counted from 1
abbrev pub refused_text : ℕ → refused.Refused → List ℕ
refused_text number why = codes "refused " ++ decimal number ++ codes " " ++ refused_name why ++ 10 ∷ []

-- the bytes spell a line
abbrev pub IsLine : List ℕ → Type 0
IsLine bytes = (line : Line) × Spells line bytes

-- they are refused for this: they spell no line, or the world refuses the one that they spell
abbrev pub RefusedAs : List ℕ → refused.Refused → Type 0
RefusedAs bytes Long = ReadsLine (Err line.Long) bytes
RefusedAs bytes NotUtf8 = ReadsLine (Err line.NotUtf8) bytes
RefusedAs bytes Form = ReadsLine (Err line.Form) bytes
RefusedAs bytes (World why) = IsLine bytes
