-- Words for worked cases: a reader with one application, and messages to it.
use Rattle.std.specs.Prelude.{ℕ, false, List, [], ◌∷◌, Some, None, codes}
use Rattle.atspi_types.specs.Kinds.{i32, u32, number, text, variant}
use Rattle.atspi_types.specs.Data.{Data, items_of, number_data, text_data, structure_data, array_data, variant_data}
use Rattle.atspi_types.specs.Data.{dictionary_data, no_entries, type_of}
use Rattle.atspi_types.specs.declared.fault.Order.TheVariants.{Little}
use Rattle.atspi_message.specs.Envelope.{Envelope}
use Rattle.atspi_tree_model.specs.declared.view.Row.{Row}
use Rattle.atspi_tree_model.specs.declared.view.Part.{Part}
use Rattle.atspi_tree_model.specs.declared.view.Part.TheVariants.{Absent, Unknown}
use Rattle.atspi_tree_model.specs.declared.view.NumPart.{NumPart}
use Rattle.atspi_tree_model.specs.declared.view.NumPart.TheVariants.{Absent as NoNumber, Unknown as UnknownNumber}
use Rattle.atspi_tree_model.specs.Forest.{Forest, nil, tree}
use Rattle.atspi_protocol.specs.ends.Places.{reference}
use Rattle.atspi_protocol.specs.declared.following.question.Question.{Question}
use Rattle.atspi_protocol.specs.following.ReaderState.{Followed, ReaderState, begins}

-- a row with this path, name and parts, focused
abbrev pub row : List ℕ → List ℕ → Part → NumPart → NumPart → Row
row at name shown caret columns = record {
  path = at;
  name = name;
  description = [];
  role = 61;
  states = 4096;
  faces = 1;
  text = shown;
  caret = caret;
  columns = columns;
}

-- a root with one child, a text of which nothing is known
abbrev pub window : Forest Row
window =
    tree (row (codes "/r") (codes "Demo") Absent NoNumber NoNumber)
    (tree (row (codes "/a") (codes "E") Unknown UnknownNumber NoNumber) nil nil) nil

-- applications: one that is known alone, and one that is held
abbrev pub known : List ℕ → Followed
known name = record { name = name; root = codes "/r"; view = None; reload = false; last = 0; refused = [] }

abbrev pub held : List ℕ → Forest Row → Followed
held name view = record (known name) { view = Some view; last = 8 }

-- a reader with its start behind it, whose registry is `:1.0`, with these applications; its call with the serial 20
-- waits
abbrev pub waiting : Question → List Followed → ReaderState
waiting question apps = record begins {
  to_come = [];
  pending = Some (record { serial = 20; question = question });
  registry = Some (codes ":1.0");
  apps = apps;
  next = 21;
}

-- a message with this type and sender
abbrev message : ℕ → List ℕ → List Data → Envelope
message kind sender body = record {
  order = Little;
  kind = kind;
  flags = 1;
  serial = 9;
  path = None;
  interface = None;
  member = None;
  error = None;
  reply = None;
  destination = Some (codes ":1.3");
  sender = Some sender;
  body = body;
}

-- a return to the call with this serial, and an error
abbrev pub returned : ℕ → List ℕ → List Data → Envelope
returned serial sender body = record (message 2 sender body) { reply = Some serial }

abbrev pub failed : ℕ → List ℕ → Envelope
failed serial sender = record (message 3 sender []) { error = Some (codes "a.b"); reply = Some serial }

-- a signal with this path, interface and member
abbrev pub signal : List ℕ → List ℕ → List ℕ → List ℕ → List Data → Envelope
signal sender at interface member body =
    record (message 4 sender body) { path = Some at; interface = Some interface; member = Some member }

-- the bus tells that a name has another owner
abbrev pub owner_changed : List ℕ → List ℕ → List ℕ → List ℕ → Envelope
owner_changed sender name before after =
    signal sender (codes "/org/freedesktop/DBus") (codes "org.freedesktop.DBus") (codes "NameOwnerChanged")
    (text_data name ∷ (text_data before ∷ (text_data after ∷ [])))

-- an event of a node
abbrev pub event : List ℕ → List ℕ → List ℕ → List ℕ → ℕ → Data → Envelope
event sender at member minor one value =
    signal sender at (codes "org.a11y.atspi.Event.Object") member
    (text_data minor
    ∷ (number_data i32 one
    ∷ (number_data i32 0
    ∷ (variant_data (type_of value) value ∷ (dictionary_data text variant no_entries ∷ [])))))

-- an item of the application `:1.7` with this path, parent and name, the first child, without interfaces and states
abbrev pub item : List ℕ → List ℕ → List ℕ → Data
item at parent name = structure_data (items_of (
    reference (codes ":1.7") at ∷ (reference (codes ":1.7") (codes "/r") ∷ (reference (codes ":1.7") parent
    ∷ (number_data i32 0 ∷ (number_data i32 0 ∷ (array_data text (items_of [])
    ∷ (text_data name ∷ (number_data u32 61 ∷ (text_data [] ∷ (array_data (number u32) (items_of []) ∷ [])))))))))))

abbrev pub items : List Data → List Data
items values = array_data (type_of (item [] [] [])) (items_of values) ∷ []
