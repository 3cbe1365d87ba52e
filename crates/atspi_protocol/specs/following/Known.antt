-- How applications become known to a reader, and how they are forgotten.
use Rattle.std.specs.Prelude.{ℕ, ◌==◌, ◌&&◌, Bool, false, not, List, [], ◌∷◌, ◌++◌, filter, map, Option, Some, None}
use Rattle.std.specs.Prelude.{codes, bytes_eq, if◌then◌else◌}
use Rattle.std.specs.List.{list_any}
use Rattle.atspi_types.specs.Data.{Data, text_data}
use Rattle.atspi_base.specs.valid_names.Names.{is_bus_name, is_unique_name}
use Rattle.atspi_message.specs.Envelope.{Envelope}
use Rattle.atspi_protocol.specs.ends.Places.{bus}
use Rattle.atspi_tree_model.specs.declared.view.Row.{Row}
use Rattle.atspi_tree_model.specs.declared.news.Reference.{Reference}
use Rattle.atspi_tree_model.specs.Forest.{Forest}
use Rattle.atspi_speech.specs.Speech.{closing_lines}
use Rattle.atspi_protocol.specs.news.Arguments.{Event, event_in, reference_in}
use Rattle.atspi_protocol.specs.news.NewsOf.{event_interface, or_empty}
use Rattle.atspi_protocol.specs.following.ReaderState.{Followed, Done, speaks, tells_end, ReaderState, is_named}

-- an application that became known: nothing was asked of it yet
abbrev pub unasked : Reference → Followed
unasked root = record { name = root.bus; root = root.path; view = None; reload = false; last = 0; refused = [] }

-- the name of a connection, which each message of it bears as its sender's
abbrev pub is_connection : List ℕ → Bool
is_connection name = is_bus_name name && is_unique_name name

-- A reference makes its application known, where its bus name is that of a connection and no application with that name
-- is known. By a well-known name nobody becomes known: no message bears one as its sender's, so no reply to what was
-- asked would count.
abbrev pub made_known : List Followed → Reference → List Followed
made_known apps root =
    if is_connection root.bus && not (list_any (is_named root.bus) apps) then apps ++ unasked root ∷ [] else apps

-- the references among values
abbrev pub references_among : List Data → List Reference
references_among [] = []
references_among (value ∷ values) = put_before (reference_in value) (references_among values)
  where
    put_before : Option Reference → List Reference → List Reference
    put_before None references = references
    put_before (Some reference) references = reference ∷ references

-- an event of the registry's: a child was added to its root
abbrev pub child_added : Option Event → Option Reference
child_added None = None
child_added (Some e) = if bytes_eq e.minor (codes "add") then reference_in e.value else None

abbrev pub is_from : Option (List ℕ) → Envelope → Bool
is_from None e = false
is_from (Some name) e = bytes_eq (or_empty e.sender) name

abbrev pub new_child : ReaderState → Envelope → Option Reference
new_child s e =
    if e.kind
    == 4
    && (is_from s.registry e
    && (bytes_eq (or_empty e.interface) event_interface
    && bytes_eq (or_empty e.member) (codes "ChildrenChanged")))
    then child_added (event_in e.body)
    else None

-- a signal of the registry's tells of a new application
abbrev pub with_child : ReaderState → Option Reference → ReaderState
with_child s None = s
with_child s (Some root) = record s { apps = made_known s.apps root }

abbrev pub takes_child : ReaderState → Envelope → ReaderState
takes_child s e = with_child s (new_child s e)

-- the name whose end the bus tells: the new owner is nobody
abbrev pub ended_name : List Data → Option (List ℕ)
ended_name (text_data name ∷ (text_data before ∷ (text_data [] ∷ []))) = Some name
ended_name body = None

abbrev pub told_end : Envelope → Option (List ℕ)
told_end e =
    if e.kind
    == 4
    && (bytes_eq (or_empty e.sender) bus
    && (bytes_eq (or_empty e.interface) bus && bytes_eq (or_empty e.member) (codes "NameOwnerChanged")))
    then ended_name e.body
    else None

-- what is spoken where an application ends that is held
abbrev pub closing_of : Followed → List Done
closing_of app = by app.view
  where
    by : Option (Forest Row) → List Done
    by None = []
    by (Some view) = map (λ (line : List ℕ). speaks app.name line) (closing_lines view)

abbrev pub closings : List Followed → List Done
closings [] = []
closings (app ∷ apps) = closing_of app ++ closings apps

-- an end is told where it is that of a connection
abbrev pub end_of_connection : List ℕ → List Done
end_of_connection name = if is_connection name then tells_end name ∷ [] else []

-- the end of a name: its application is forgotten with all its rows
abbrev pub with_end : ReaderState → Option (List ℕ) → ReaderState
with_end s None = s
with_end s (Some name) = record s {
  apps = filter (λ app. not (is_named name app)) s.apps;
  out = s.out ++ (end_of_connection name ++ closings (filter (is_named name) s.apps));
}

abbrev pub takes_end : ReaderState → Envelope → ReaderState
takes_end s e = with_end s (told_end e)
