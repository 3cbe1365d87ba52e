-- The signals by which an application tells of its tree (AT-SPI2's interface files Cache and Event.Object).
use Rattle.std.specs.Prelude.{ℕ, ℤ, pos, Bool, true, false, List, [], ◌∷◌, codes, unwrap_or, slice_get}
use Rattle.atspi_types.specs.Kinds.{text, variant}
use Rattle.atspi_types.specs.Data.{Data, text_data, dictionary_data, entries_of}
use Rattle.atspi_tables.specs.States.{state_names}
use Rattle.atspi_tree_model.specs.declared.news.Item.{Item}
use Rattle.atspi_tree_model.specs.Path.{path_of}
use Rattle.atspi_message.specs.Envelope.{Envelope}
use Rattle.atspi_protocol.specs.ends.Places.{reference, cache_path}
use Rattle.atspi_protocol.specs.ends.Messages.{signal_of}
use Rattle.atspi_protocol.specs.members.Interfaces.{cache}
use Rattle.atspi_protocol.specs.members.Arguments.{int}
use Rattle.atspi_protocol.specs.news.NewsOf.{event_interface}
use Rattle.atspi_protocol.specs.objects.Values.{in_variant, item_data}

-- a signal, with the name and the minor word of the event by which patterns cover it
pub record Signal : Type 0 where
  pub event : List ℕ
  pub minor : List ℕ
  pub message : Envelope

-- an event at a node: its minor word, two details, a value, and no more
abbrev pub event_body : List ℕ → ℤ → ℤ → Data → List Data
event_body minor first second value =
    text_data minor ∷ int first ∷ int second ∷ in_variant value ∷ dictionary_data text variant (entries_of []) ∷ []

abbrev at_node : List ℕ → ℕ → List ℕ → ℤ → ℤ → Data → Envelope
at_node member n minor first second value =
    signal_of (path_of n) event_interface member (event_body minor first second value)

-- where an event has no value, it is this number
abbrev no_value : Data
no_value = int (pos 0)

-- a parent has another child at this index, or no longer has it
abbrev pub child_changed : List ℕ → ℕ → List ℕ → ℕ → ℕ → Signal
child_changed bus parent minor index child = record {
  event = codes "children-changed";
  minor = minor;
  message = at_node (codes "ChildrenChanged") parent minor (pos index) (pos 0) (reference bus (path_of child));
}

-- a property of a node has another value
abbrev pub property_changed : ℕ → List ℕ → Data → Signal
property_changed n minor value = record {
  event = codes "property-change";
  minor = minor;
  message = at_node (codes "PropertyChange") n minor (pos 0) (pos 0) value;
}

-- a state is on, or off
abbrev pub one_if : Bool → ℕ
one_if true = 1
one_if false = 0

abbrev pub state_name : ℕ → List ℕ
state_name state = unwrap_or (slice_get state_names state) []

abbrev pub state_changed : ℕ → ℕ → Bool → Signal
state_changed n state on = record {
  event = codes "state-changed";
  minor = state_name state;
  message = at_node (codes "StateChanged") n (state_name state) (pos (one_if on)) (pos 0) no_value;
}

-- a text was put in, or taken out: so many characters at this place
abbrev pub text_changed : ℕ → List ℕ → ℕ → ℕ → List ℕ → Signal
text_changed n minor at count characters = record {
  event = codes "text-changed";
  minor = minor;
  message = at_node (codes "TextChanged") n minor (pos at) (pos count) (text_data characters);
}

abbrev pub caret_moved : ℕ → ℕ → Signal
caret_moved n at = record {
  event = codes "text-caret-moved";
  minor = [];
  message = at_node (codes "TextCaretMoved") n [] (pos at) (pos 0) no_value;
}

-- what the object for the whole tree tells: a node's item, and that a node is gone
abbrev pub added : Item → Signal
added item = record {
  event = codes "children-changed";
  minor = codes "add";
  message = signal_of cache_path cache (codes "AddAccessible") (item_data item ∷ []);
}

abbrev pub removed : List ℕ → ℕ → Signal
removed bus n = record {
  event = codes "children-changed";
  minor = codes "remove";
  message = signal_of cache_path cache (codes "RemoveAccessible") (reference bus (path_of n) ∷ []);
}
