-- The names of refusals, and the line that tells of one.
use Rattle.std.specs.Prelude.{ℕ, List, [], ◌∷◌, ◌++◌, codes}
use Rattle.std.specs.Fmt.{decimal}
use Rattle.atspi_run_input.specs.Names.{edit_fault_name}
use Rattle.atspi_run_hit.specs.declared.naming.Refused.{Refused}
use Rattle.atspi_run_hit.specs.declared.naming.Refused.TheVariants.{Long, NotUtf8, Form, Asked}

abbrev pub refused_name : Refused → List ℕ
refused_name Long = codes "Long"
refused_name NotUtf8 = codes "NotUtf8"
refused_name Form = codes "Form"
refused_name (Asked why) = edit_fault_name why

-- `refused LINE NAME`, lines counted from 1
abbrev pub refused_text : ℕ → Refused → List ℕ
refused_text number why = codes "refused " ++ decimal number ++ codes " " ++ refused_name why ++ 10 ∷ []
