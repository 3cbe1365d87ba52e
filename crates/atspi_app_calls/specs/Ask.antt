-- What is asked of an application's objects, as the table of members has it.
use Rattle.std.specs.Prelude.{ℕ, List, Result, Ok, Err}
use Rattle.atspi_types.specs.Data.{Data}
use Rattle.atspi_protocol.specs.declared.ends.error.CallError.{CallError}
use Rattle.atspi_protocol.specs.ends.Messages.{error_word}
use Rattle.atspi_protocol.specs.declared.members.property.ObjectProperty.{ObjectProperty}
use Rattle.atspi_protocol.specs.declared.members.property.ObjectProperty.TheVariants as properties
use Rattle.atspi_protocol.specs.members.Arguments.{int}
use Rattle.atspi_protocol.specs.members.Asked.{Asked, calls, gets, gets_all, sets}
use Rattle.atspi_app_calls.specs.declared.ask.Ask.{Ask}
use Rattle.atspi_app_calls.specs.declared.ask.Ask.TheVariants.{Call, Get, GetAll, SetId}
use Rattle.atspi_app_calls.specs.Interface.{properties_in}

-- what is asked, with the arguments of the call
abbrev pub asked_of : List Data → Ask → Asked
asked_of body (Call member) = calls member body
asked_of body (Get property) = gets property
asked_of body (GetAll interface) = gets_all (properties_in interface)
asked_of body (SetId n) = sets properties.Id (int n)

-- or the error
abbrev pub as_asked : List Data → Result Ask CallError → Result Asked (List ℕ)
as_asked body (Ok ask) = Ok (asked_of body ask)
as_asked body (Err error) = Err (error_word error)
