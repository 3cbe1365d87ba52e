-- The parts of a step of a reader's.
use Rattle.std.specs.Prelude.{◌≡◌, ◌≤◌, ℕ, length, take, Bool, true, false, not, List, [], ◌∷◌, ◌++◌, filter, Option}
use Rattle.std.specs.Prelude.{Some, None, if◌then◌else◌}
use Rattle.std.specs.List.{list_any, fold}
use Rattle.atspi_message.specs.Envelope.{Envelope}
use Rattle.atspi_tree_model.specs.declared.news.News.{News}
use Rattle.atspi_tree_model.specs.declared.news.Reference.{Reference}
use Rattle.atspi_protocol.specs.news.Replies.{elements_of}
use Rattle.atspi_protocol.specs.declared.news.part.PartName.{PartName}
use Rattle.atspi_protocol.specs.declared.following.question.Question.{Question}
use Rattle.atspi_protocol.specs.following.ReaderState.{Followed, Pending, Done, ReaderState, is_named}
use Rattle.atspi_protocol.specs.following.Known.{is_connection, unasked, made_known, references_among}
use Rattle.atspi_protocol.specs.following.Replied.{changed, ends_call, told_part, refused_part}
use Rattle.atspi_protocol.specs.following.Takes.{notes}

-- more was done
abbrev pub did : ReaderState → List Done → ReaderState
did s more = record s { out = s.out ++ more }

-- other applications
abbrev pub with_apps : ReaderState → List Followed → ReaderState
with_apps s apps = record s { apps = apps }

-- the calls of the start that are still to come, where it goes on
abbrev pub coming : Bool → List Question → List Question
coming true to_come = to_come
coming false to_come = []

-- no call waits any more, and the serial of the message is noted
abbrev pub free : ReaderState → Envelope → ReaderState
free s e = record (notes s e) { pending = None }

-- another application stands in the place of the one with this name, or nothing does
abbrev pub replaced : Option Followed → List ℕ → List Followed → List Followed
replaced (Some app) name apps = changed (λ _. app) name apps
replaced None name apps = filter (λ app. not (is_named name app)) apps

-- the part of a row that was told, or not
abbrev pub parted : Option News → List ℕ → PartName → Followed → Followed
parted (Some news) path part = told_part news
parted None path part = refused_part path part

-- the question that waits
abbrev pub asked_of : Pending → Question
asked_of p = p.question

-- whether a message is the reply that is waited for
abbrev pub is_answer : Option Pending → Envelope → Bool
is_answer None e = false
is_answer (Some p) e = ends_call p e

-- the application that a reference names, where its bus name is that of a connection
abbrev pub app_in : Reference → Option Followed
app_in root = if is_connection root.bus then Some (unasked root) else None

-- an application as a list, and that it is new to some: none has its name, and it is not held
abbrev pub listed : Option Followed → List Followed
listed None = []
listed (Some app) = app ∷ []

pub record IsNewTo (apps : List Followed) (app : Followed) : Type 0 where
  pub other : list_any (is_named app.name) apps ≡ false
  pub unheld : app.view ≡ None

-- the references that a return tells make their applications known, and its sender is the registry
abbrev pub rooted : ReaderState → Envelope → ReaderState
rooted s e = record s { registry = e.sender; apps = fold made_known s.apps (references_among (elements_of e.body)) }

-- a message's serial is noted where its sender was known before
abbrev pub noted_if : Bool → ReaderState → Envelope → ReaderState
noted_if known s e = if known then notes s e else s

-- those that were known before stand in front
pub record StandsInFront (old new : List Followed) : Type 0 where
  pub within : length old ≤ length new
  pub front : take (length old) new ≡ old
