-- What a user may ask of a node.
use Rattle.std.specs.Prelude.{ℕ, ◌≤◌, length}
use Rattle.atspi_script_lines.specs.declared.deed.Deed.{Deed}
use Rattle.atspi_script_lines.specs.declared.deed.Deed.TheVariants.{SetCaret, InsertText, DeleteText, SetText}
use Rattle.atspi_script_lines.specs.declared.deed.Deed.TheVariants.{SelectChild, DeselectChild, SelectAll}
use Rattle.atspi_script_lines.specs.declared.deed.Deed.TheVariants.{ClearSelection, DoAction}

-- a place or an index, as a call has it: a signed number of 32 bits that is not negative
abbrev IsPlace : ℕ → Type 0
IsPlace n = n ≤ 2147483647

-- places and indexes are that, and a text has at most 1,048,576 characters
abbrev pub MayBeAsked : Deed → Type 0
MayBeAsked (SetCaret at) = IsPlace at
MayBeAsked (InsertText at text) = IsPlace at × (length text ≤ 1048576)
MayBeAsked (DeleteText from to) = IsPlace from × IsPlace to
MayBeAsked (SetText text) = length text ≤ 1048576
MayBeAsked (SelectChild index) = IsPlace index
MayBeAsked (DeselectChild index) = IsPlace index
MayBeAsked SelectAll = Unit {0}
MayBeAsked ClearSelection = Unit {0}
MayBeAsked (DoAction index) = IsPlace index
