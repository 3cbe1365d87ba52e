-- Words for worked cases.
use Rattle.std.specs.Prelude.{ℕ, List, [], ◌∷◌, Some, None, codes}
use Rattle.atspi_types.specs.Kinds.{Kind, i32, u32, text, number, variant}
use Rattle.atspi_types.specs.Data.{Data, items_of, number_data, text_data, path_data, array_data, structure_data}
use Rattle.atspi_types.specs.Data.{variant_data, dictionary_data, no_entries, type_of}
use Rattle.atspi_types.specs.declared.fault.Order.TheVariants.{Little}
use Rattle.atspi_message.specs.Envelope.{Envelope}
use Rattle.atspi_protocol.specs.news.NewsOf.{event_interface}

-- a signal of `:1.7` with this path, interface and member
abbrev pub signal : List ℕ → List ℕ → List ℕ → List Data → Envelope
signal at interface member body = record {
  order = Little;
  kind = 4;
  flags = 1;
  serial = 9;
  path = Some at;
  interface = Some interface;
  member = Some member;
  error = None;
  reply = None;
  destination = None;
  sender = Some (codes ":1.7");
  body = body;
}

-- an event of the node /n, with these arguments and no properties
abbrev pub event : List ℕ → List ℕ → ℕ → ℕ → Data → Envelope
event member minor one two value =
    signal (codes "/n") event_interface member
    (text_data minor ∷ (number_data i32 one ∷ (number_data i32 two ∷ (variant_data (type_of value) value
    ∷ (dictionary_data text variant no_entries ∷ [])))))

-- a reference to an object
abbrev pub reference : List ℕ → List ℕ → Data
reference bus at = structure_data (items_of (text_data bus ∷ (path_data at ∷ [])))

-- the item of the node /a of `:1.7`, a push button `OK`, the second child of the root /r, with these words of states
abbrev pub words_data : List Data → Data
words_data words = array_data (number u32) (items_of words)

abbrev pub item : List Data → Data
item words = structure_data (items_of (
    reference (codes ":1.7") (codes "/a")
    ∷ (reference (codes ":1.7") (codes "/r") ∷ (reference (codes ":1.7") (codes "/r")
    ∷ (number_data i32 1
    ∷ (number_data i32 0 ∷ (array_data text (items_of (text_data (codes "org.a11y.atspi.Accessible") ∷ []))
    ∷ (text_data (codes "OK") ∷ (number_data u32 43 ∷ (text_data (codes "Does it") ∷ (words_data words ∷ [])))))))))))

-- its type
abbrev pub item_kind : Kind
item_kind = type_of (item [])

-- what a call returns, and an error
abbrev pub returned : List Data → Envelope
returned body = record (signal [] [] [] body) { kind = 2; path = None; interface = None; member = None; reply = Some 4 }

abbrev pub failed : List Data → Envelope
failed body = record (returned body) { kind = 3; error = Some (codes "a.b") }
