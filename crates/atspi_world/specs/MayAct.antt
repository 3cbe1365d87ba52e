-- Which lines a world may be given. A script's lines are all such.
use Rattle.std.specs.Prelude.{◌≡◌, ◌≤◌}
use Rattle.atspi_tree_model.specs.Edits.{IsEdit}
use Rattle.atspi_script_lines.specs.declared.limits.TheConstants.{QUOTA_LEAST, QUOTA_MOST}
use Rattle.atspi_script_lines.specs.declared.line.Line.{Line}
use Rattle.atspi_script_lines.specs.declared.line.Line.TheVariants.{Quota, Edit, Call, Bytes}
use Rattle.atspi_script_lines.specs.declared.line.Party.TheVariants.{Bus}
use Rattle.atspi_reader_calls.specs.Deeds.{MayBeAsked}

-- a quota within its limits, an edit that can be looked at, a call that can be made, the links of an end
abbrev pub MayAct : Line → Type 0
MayAct (Quota quota) = (QUOTA_LEAST ≤ quota) × (quota ≤ QUOTA_MOST)
MayAct (Edit app edit) = IsEdit edit
MayAct (Call reader app node deed) = MayBeAsked deed
MayAct (Bytes who up count) = who ≡ Bus → ⊥
MayAct _ = Unit {0}
