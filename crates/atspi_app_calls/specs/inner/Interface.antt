-- Words that only the private contracts and proofs beside `Interface` use.
use Rattle.std.specs.Prelude.{◌≡◌, ◌≢◌, ℕ, List, filter, bytes_eq, Option, None, Some}
use Rattle.atspi_protocol.specs.members.Interfaces as names
use Rattle.atspi_protocol.specs.members.Table.{MemberLine, member_lines}
use Rattle.atspi_app_calls.specs.declared.interface.AppInterface.{AppInterface}
use Rattle.atspi_app_calls.specs.declared.interface.AppInterface.TheVariants as interfaces
use Rattle.atspi_app_calls.specs.Interface.{interface_name}

-- the interface with this name, or there is none
abbrev pub NamesInterface : List ℕ → Option AppInterface → Type 0
NamesInterface name None = (i : AppInterface) → name ≢ interface_name i
NamesInterface name (Some i) = name ≡ interface_name i

-- the lines of the interface with a name
abbrev pub of_interface : List ℕ → List MemberLine → List MemberLine
of_interface name ls = filter (λ (l : MemberLine). bytes_eq name l.interface) ls

-- an interface's lines of the table of members, and of that of properties
abbrev pub lines_in : AppInterface → List MemberLine
lines_in i = of_interface (interface_name i) member_lines
