-- What an end did, put on its link and into the trace.
use Rattle.std.specs.Prelude.{◌≡◌, ◌<◌, ℕ, List, ◌∷◌, ◌++◌, flat_map, length, map, slice_get, slice_set, Option, []}
use Rattle.std.specs.Prelude.{Some, Ok}
use Rattle.std.specs.List.{AllByRecursion}
use Rattle.atspi_tree_model.specs.declared.edit.Edit.{Edit}
use Rattle.atspi_script_lines.specs.declared.deed.Deed.{Deed}
use Rattle.atspi_script_lines.specs.declared.line.Party.{Party}
use Rattle.atspi_script_lines.specs.declared.line.Party.TheVariants as party
use Rattle.atspi_script_lines.specs.declared.line.Party.TheVariants.{Reader}
use Rattle.atspi_message.specs.Envelope.{Envelope}
use Rattle.atspi_message.specs.Bytes.{IsMessage, written}
use Rattle.atspi_protocol.specs.exporting.Exporter.{Happening, steps, sends, hears, deaf, Exporter}
use Rattle.atspi_protocol.specs.exporting.Taking.{app_edits}
use Rattle.atspi_protocol.specs.following.ReaderState as following
use Rattle.atspi_protocol.specs.following.ReaderState.{ReaderState, speaks, tells_end}
use Rattle.atspi_protocol.specs.following.Takes.{reader_calls}
use Rattle.atspi_protocol.specs.registering.Steps.{Registry}
use Rattle.atspi_trace_events.specs.declared.event.Event.{Event}
use Rattle.atspi_world_links.specs.declared.post.Post.{Post}
use Rattle.atspi_trace.specs.Entry.{Entry, sent, spoke, gone, entries_of}
use Rattle.atspi_trace.specs.Causes.{did}
use Rattle.atspi_world_links.specs.Changes.{changed_at}
use Rattle.atspi_world_links.specs.Named.{app_named}
use Rattle.atspi_trace.specs.play.Plays.{of_app}
use Rattle.atspi_trace.specs.play.Playing.{silent}

-- a connection with a message that was sent
abbrev pub sent_on : Envelope → Post → Post
sent_on e p = record p { up = p.up ++ written e }

-- a message was sent at a connection: its bytes are on the link, it can be read from them, and that is told
pub record IsSent (who : Party) (e : Envelope) (conn : ℕ) (posts posts' : List Post) (old new : List Event)
    : Type 0 where
  pub posts_are : posts' ≡ changed_at conn (sent_on e) posts
  pub wrote : entries_of new ≡ entries_of old ++ sent who e ∷ []
  pub written_ : IsMessage e (written e)

-- a connection with what an application did
abbrev pub said_on : Happening → Post → Post
said_on (sends e) p = sent_on e p
said_on (steps step) p = p
said_on (hears listener pattern) p = p
said_on (deaf listener pattern) p = p

abbrev pub all_said : List Happening → Post → Post
all_said [] p = p
all_said (h ∷ hs) p = all_said hs (said_on h p)

-- what is sent can be written
abbrev pub CanBeWritten : Happening → Type 0
CanBeWritten (sends e) = IsMessage e (written e)
CanBeWritten (steps step) = Unit {0}
CanBeWritten (hears listener pattern) = Unit {0}
CanBeWritten (deaf listener pattern) = Unit {0}

abbrev pub quiet : Exporter → Exporter
quiet s = record s { out = [] }

-- all that an application queued is on its link and in the trace, and it has queued nothing
pub record IsTold (before after : Exporter) (number : ℕ) (p q : Post) (old new : List Event) : Type 0 where
  pub app : after ≡ quiet before
  pub post : q ≡ all_said before.out p
  pub wrote : entries_of new ≡ entries_of old ++ map (did number) before.out
  pub written_ : AllByRecursion CanBeWritten before.out

-- the same of the application with a number, among all, and of the connection with a number
pub record IsToldAt (before after : List Exporter) (a conn : ℕ) (posts posts' : List Post) (old new : List Event)
    (s : Exporter) (p : Post) : Type 0 where
  pub apps : after ≡ slice_set before a (quiet s)
  pub posts_are : posts' ≡ slice_set posts conn (all_said s.out p)
  pub wrote : entries_of new ≡ entries_of old ++ map (did a) s.out
  pub written_ : AllByRecursion CanBeWritten s.out

abbrev pub TellsAt : List Exporter → List Exporter → ℕ → ℕ → List Post → List Post → List Event → List Event → Type 0
TellsAt before after a conn posts posts' old new =
    (s : Exporter) (p : Post) → slice_get before a ≡ Some s → slice_get posts conn ≡ Some p
    → IsToldAt before after a conn posts posts' old new s p

-- one application made an edit of its user
pub record IsEditedAt (before after : List Exporter) (a : ℕ) (edit : Edit) (s : Exporter) : Type 0 where
  pub state : Exporter
  pub edited : app_edits s edit ≡ Ok state
  pub apps : after ≡ slice_set before a state

abbrev pub EditsAt : List Exporter → List Exporter → ℕ → Edit → Type 0
EditsAt before after a edit = (s : Exporter) → slice_get before a ≡ Some s → IsEditedAt before after a edit s

-- What a reader did, as entries: of an application that it names by a unique name, where that is or was one's
abbrev pub told_by : ℕ → List Post → following.Done → List Entry
told_by reader posts (following.sends e) = sent (Reader reader) e ∷ []
told_by reader posts (speaks name line) = of_app (app_named name posts) (λ app. spoke reader app line)
told_by reader posts (tells_end name) = of_app (app_named name posts) (λ app. gone reader app)

-- the messages that it queued
abbrev pub messages : List following.Done → List Envelope
messages [] = []
messages (following.sends e ∷ ds) = e ∷ messages ds
messages (speaks name line ∷ ds) = messages ds
messages (tells_end name ∷ ds) = messages ds

abbrev pub all_sent : List Envelope → Post → Post
all_sent [] p = p
all_sent (e ∷ es) p = all_sent es (sent_on e p)

-- all that a reader queued is told, and its messages are on its link
pub record IsToldAll (reader : ℕ) (ds : List following.Done) (conn : ℕ) (posts posts' : List Post)
    (old new : List Event) : Type 0 where
  pub posts_are : posts' ≡ changed_at conn (all_sent (messages ds)) posts
  pub wrote : entries_of new ≡ entries_of old ++ flat_map (told_by reader posts) ds
  pub written_ : AllByRecursion (λ e. IsMessage e (written e)) (messages ds)

abbrev pub TellsAll : ReaderState → ℕ → ℕ → List Post → List Post → List Event → List Event → Type 0
TellsAll s reader conn posts posts' old new = conn < length posts → IsToldAll reader s.out conn posts posts' old new

-- the same of the reader with a number, among all; it has queued nothing then
pub record IsReaderTold (before after : List ReaderState) (r conn : ℕ) (posts posts' : List Post) (old new : List Event)
    (s : ReaderState) : Type 0 where
  pub readers : after ≡ slice_set before r (silent s)
  pub tells : TellsAll s r conn posts posts' old new

abbrev pub TellsReaderAt : List ReaderState → List ReaderState → ℕ → ℕ → List Post → List Post → List Event → List Event
    → Type 0
TellsReaderAt before after r conn posts posts' old new = (s : ReaderState) → slice_get before r ≡ Some s
    → IsReaderTold before after r conn posts posts' old new s

-- one reader sends a call of its user to a node of an application, by the application's name
pub record IsCallingAt (before after : List ReaderState) (r : ℕ) (callee : Option (List ℕ)) (node : ℕ) (deed : Deed)
    (s : ReaderState) : Type 0 where
  pub name : List ℕ
  pub named : callee ≡ Some name
  pub readers : after ≡ slice_set before r (reader_calls s name node deed)

abbrev pub CallsAt : List ReaderState → List ReaderState → ℕ → Option (List ℕ) → ℕ → Deed → Type 0
CallsAt before after r callee node deed = (s : ReaderState) → slice_get before r ≡ Some s
    → IsCallingAt before after r callee node deed s

-- all that the registry queued is on its link, the first, and in the trace, and it has queued nothing
pub record IsRegistryTold (before after : Registry) (p q : Post) (old new : List Event) : Type 0 where
  pub registry : after ≡ record before { out = [] }
  pub post : q ≡ all_sent before.out p
  pub wrote : entries_of new ≡ entries_of old ++ map (sent party.Registry) before.out
  pub written_ : AllByRecursion (λ e. IsMessage e (written e)) before.out

pub record IsFirstTold (before after : Registry) (p : Post) (rest posts : List Post) (old new : List Event)
    : Type 0 where
  pub post : Post
  pub posts_are : posts ≡ post ∷ rest
  pub told : IsRegistryTold before after p post old new

abbrev pub TellsFirst : Registry → Registry → List Post → List Post → List Event → List Event → Type 0
TellsFirst before after posts posts' old new = (p : Post) (rest : List Post) → posts ≡ p ∷ rest
    → IsFirstTold before after p rest posts' old new
