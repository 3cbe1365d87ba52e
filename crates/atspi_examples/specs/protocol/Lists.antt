-- Names and types of lines of the tables, in their order; and applications, messages and a step of the worked cases.
use Rattle.std.specs.Prelude.{ℕ, List, [], ◌∷◌, map, Some, false, codes}
use Rattle.atspi_types.specs.Kinds.{i32, u32, number, text}
use Rattle.atspi_types.specs.Data.{Data, array_data, items_of, number_data, structure_data, text_data}
use Rattle.atspi_tree_model.specs.declared.step.Seed.{Seed}
use Rattle.atspi_tree_model.specs.declared.step.Step.{Step}
use Rattle.atspi_tree_model.specs.declared.step.Step.TheVariants.{Move}
use Rattle.atspi_protocol.specs.exporting.Exporter.{Happening, deaf, hears, sends, steps}
use Rattle.atspi_protocol.specs.ends.Messages.{call_to}
use Rattle.atspi_message.specs.Envelope.{Envelope}
use Rattle.atspi_tree_model.specs.Row.{TreeRow}
use Rattle.atspi_protocol.specs.ends.Places.{reference}
use Rattle.atspi_protocol.specs.members.Table.{MemberLine, PropertyLine}
use Rattle.atspi_protocol.specs.objects.Cases.{grid}

-- of each member its name and what it gives
abbrev pub gives : List MemberLine → List (List ℕ × List ℕ)
gives ls = map (λ (l : MemberLine). (l.name, l.gives)) ls

-- of each property its name and its type
abbrev pub types : List PropertyLine → List (List ℕ × List ℕ)
types ls = map (λ (l : PropertyLine). (l.name, l.type)) ls

-- a message without anything to tell, and what happens round it
abbrev pub ping : Envelope
ping = call_to (codes ":1.1") (codes "/p") (codes "i.f") (codes "M") []

abbrev pub happenings : Step → List Happening
happenings step = sends ping ∷ hears (codes ":1.2") (codes "a") ∷ deaf (codes ":1.3") (codes "b") ∷ steps step
    ∷ sends ping ∷ []

-- a node is moved to another parent's second place
abbrev pub moving : Step
moving = Move 3 13 1

-- the item of a button `Cancel`, whose object, application and parent are of three names
abbrev pub cancel : Data
cancel = structure_data (items_of (
    reference (codes ":1.7") (codes "/a") ∷ reference (codes ":1.8") (codes "/b")
    ∷ reference (codes ":1.9") (codes "/c")
    ∷ number_data i32 2 ∷ number_data i32 4294967295
    ∷ array_data text (items_of (text_data (codes "i.a") ∷ text_data (codes "i.b") ∷ []))
    ∷ text_data (codes "Cancel") ∷ number_data u32 43 ∷ text_data (codes "Stops it")
    ∷ array_data (number u32) (items_of (number_data u32 5 ∷ number_data u32 1 ∷ [])) ∷ []
    ))

-- the table of the worked application with one column, so that its five cells make five rows
abbrev pub narrow : TreeRow
narrow = record grid { contents = record grid.contents { columns = Some 1 } }

-- a new node with contents of each kind
abbrev pub full : Seed
full =
    record {
      role = 0;
      name = [];
      text = Some (codes "t");
      editable = false;
      columns = Some 4;
      select = false;
      actions = codes "a" ∷ codes "b" ∷ [];
    }
