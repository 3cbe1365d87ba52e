-- The interfaces that an application's objects have, with their names, and their lines of the tables.
use Rattle.std.specs.Prelude.{ℕ, List, filter, bytes_eq}
use Rattle.atspi_protocol.specs.members.Interfaces as names
use Rattle.atspi_protocol.specs.members.Table.{PropertyLine, property_lines}
use Rattle.atspi_app_calls.specs.declared.interface.AppInterface.{AppInterface}
use Rattle.atspi_app_calls.specs.declared.interface.AppInterface.TheVariants as interfaces

abbrev pub interface_name : AppInterface → List ℕ
interface_name interfaces.Accessible = names.accessible
interface_name interfaces.Application = names.application
interface_name interfaces.Cache = names.cache
interface_name interfaces.Text = names.text
interface_name interfaces.EditableText = names.editable_text
interface_name interfaces.Selection = names.selection
interface_name interfaces.Table = names.table
interface_name interfaces.Action = names.action
interface_name interfaces.Properties = names.properties
interface_name interfaces.Peer = names.peer

abbrev pub properties_in : AppInterface → List PropertyLine
properties_in i = filter (λ (l : PropertyLine). bytes_eq (interface_name i) l.interface) property_lines
