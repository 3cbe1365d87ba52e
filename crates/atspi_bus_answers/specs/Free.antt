-- A name that nobody has.
use Rattle.std.specs.Prelude.{◌≡◌, ℕ, true, List, None}
use Rattle.std.specs.FinMap.{get}
use Rattle.atspi_types.specs.Data.{Data}
use Rattle.atspi_names.specs.Owners.{Owners}
use Rattle.atspi_match.specs.routing.Answers.{first_text, may_be_asked_for}

-- the name that a call of RequestName with these arguments asks for, where connections may ask for it and nobody has it
pub record IsFreeName (owners : Owners) (args : List Data) (name : List ℕ) : Type 0 where
  pub is : name ≡ first_text args
  pub asked : may_be_asked_for (first_text args) ≡ true
  pub free : get owners.lists name ≡ None
