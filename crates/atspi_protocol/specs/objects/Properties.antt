-- The values of a node's properties (AT-SPI2's interface files, with this project's profile).
use Rattle.std.specs.Prelude.{List, map, length, codes, decimal}
use Rattle.atspi_types.specs.Kinds.{text, variant}
use Rattle.atspi_types.specs.Data.{Data, text_data, dictionary_data, entries_of}
use Rattle.atspi_tree_model.specs.Row.{TreeRow}
use Rattle.atspi_protocol.specs.declared.members.property.ObjectProperty.{ObjectProperty}
use Rattle.atspi_protocol.specs.declared.members.property.ObjectProperty.TheVariants.{Name, Description, Parent}
use Rattle.atspi_protocol.specs.declared.members.property.ObjectProperty.TheVariants.{ChildCount, Locale, AccessibleId}
use Rattle.atspi_protocol.specs.declared.members.property.ObjectProperty.TheVariants.{ToolkitName, Version}
use Rattle.atspi_protocol.specs.declared.members.property.ObjectProperty.TheVariants.{AtspiVersion, Id, CharacterCount}
use Rattle.atspi_protocol.specs.declared.members.property.ObjectProperty.TheVariants.{CaretOffset, NSelectedChildren}
use Rattle.atspi_protocol.specs.declared.members.property.ObjectProperty.TheVariants.{NRows, NColumns, NActions}
use Rattle.atspi_protocol.specs.members.Arguments.{int}
use Rattle.atspi_protocol.specs.members.Table.{PropertyLine}
use Rattle.atspi_protocol.specs.objects.Application.{Application}
use Rattle.atspi_protocol.specs.objects.Values.{count_data, in_variant}
use Rattle.atspi_protocol.specs.objects.Children.{children_of, selected_children, parent_data}
use Rattle.atspi_protocol.specs.objects.Texts.{text_of}
use Rattle.atspi_protocol.specs.objects.Tables.{columns_of, rows_of}

abbrev pub property_data : Application → TreeRow → ObjectProperty → Data
property_data a row Name = text_data row.shape.name
property_data a row Description = text_data row.shape.description
property_data a row Parent = parent_data a row
property_data a row ChildCount = count_data (length (children_of a row))
property_data a row Locale = text_data (codes "C")
property_data a row AccessibleId = text_data (decimal row.shape.node)
property_data a row ToolkitName = text_data (codes "atspi-replay")
property_data a row Version = text_data (codes "1")
property_data a row AtspiVersion = text_data (codes "2.1")
property_data a row Id = int a.id
property_data a row CharacterCount = count_data (length (text_of row).characters)
property_data a row CaretOffset = count_data (text_of row).caret
property_data a row NSelectedChildren = count_data (length (selected_children a row))
property_data a row NRows = count_data (rows_of a row)
property_data a row NColumns = count_data (columns_of row)
property_data a row NActions = count_data (length row.contents.actions)

-- all properties of an interface, with their names, in the order of the table
abbrev pub properties_data : Application → TreeRow → List PropertyLine → Data
properties_data a row lines =
    dictionary_data text variant
    (entries_of (map (λ (l : PropertyLine). (text_data l.name, in_variant (property_data a row l.property))) lines))
