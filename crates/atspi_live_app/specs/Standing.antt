-- What an application did from its start on: the lines of its input that were done and the messages that it took, in
-- their order.
use Rattle.std.specs.Prelude.{◌≡◌, ◌⊎◌, ℕ, ◌+◌, false, true, List, [], ◌∷◌, ◌++◌, length, Option, None, Some, Ok, Err}
use Rattle.atspi_tree_model.specs.declared.edit.Edit.{Edit}
use Rattle.atspi_tree_model.specs.declared.edit.EditFault.{EditFault}
use Rattle.atspi_tree_model.specs.declared.edit.EditFault.TheVariants.{TextFull}
use Rattle.atspi_tree_model.specs.Row.{IsName}
use Rattle.atspi_message.specs.Envelope.{Envelope}
use Rattle.atspi_script_lines.specs.declared.line.LineFault.TheVariants as faults
use Rattle.atspi_script_lines.specs.Line.{ReadsLine}
use Rattle.atspi_protocol.specs.exporting.Exporter.{Happening, steps, sends, hears, deaf, Exporter, begins}
use Rattle.atspi_protocol.specs.exporting.Starting.{starts}
use Rattle.atspi_protocol.specs.exporting.Taking.{app_takes, app_edits, is_spent}
use Rattle.atspi_app_known.specs.application.Seen.{IsSpentAfter}
use Rattle.atspi_live_app.specs.Asking.{IsAsk}
use Rattle.atspi_live_app.specs.declared.asking.Ask.{Ask}
use Rattle.atspi_live_app.specs.declared.asking.Ask.TheVariants as ask
use Rattle.atspi_live_app.specs.declared.naming.Refused.{Refused}
use Rattle.atspi_live_app.specs.declared.naming.Refused.TheVariants as refused

-- a line of the input was done, or a message was taken
pub data Event : Type 0 where
  does : List ℕ → Event
  takes : Envelope → Event

abbrev pub lines_in : List Event → List (List ℕ)
lines_in [] = []
lines_in (does line ∷ events) = line ∷ lines_in events
lines_in (takes e ∷ events) = lines_in events

abbrev pub taken_in : List Event → List Envelope
taken_in [] = []
taken_in (does line ∷ events) = taken_in events
taken_in (takes e ∷ events) = e ∷ taken_in events

-- an application, once it has started, and what it is when that was done for which a line asks: it starts once, and
-- before all else
abbrev pub Does : Option Exporter → Ask → Option Exporter → Type 0
Does s ask.Nothing t = t ≡ s
Does None (ask.Start name) t = IsName name × (t ≡ Some (starts (begins name)))
Does (Some s) (ask.Start name) t = ⊥
Does None (ask.Edit edit) t = ⊥
Does (Some s) (ask.Edit edit) t = (u : Exporter) × (app_edits s edit ≡ Ok u) × (t ≡ Some u)
Does None (ask.Wait rounds) t = ⊥
Does (Some s) (ask.Wait rounds) t = t ≡ Some s

-- one that has not started ignores all messages
abbrev pub Comes : Option Exporter → Event → Option Exporter → Type 0
Comes s (does line) t = (what : Ask) × IsAsk what line × Does s what t
Comes None (takes e) t = t ≡ None
Comes (Some s) (takes e) t = t ≡ Some (app_takes s e)

-- the same of what happened, one after another
abbrev pub Makes : Option Exporter → List Event → Option Exporter → Type 0
Makes s [] t = t ≡ s
Makes s (event ∷ events) t = (mid : Option Exporter) × Comes s event mid × Makes mid events t

-- the messages among what happens at an application
abbrev pub sent_in : List Happening → List Envelope
sent_in [] = []
sent_in (sends e ∷ hs) = e ∷ sent_in hs
sent_in (steps step ∷ hs) = sent_in hs
sent_in (hears bus pattern ∷ hs) = sent_in hs
sent_in (deaf bus pattern ∷ hs) = sent_in hs

-- with the messages that it still has queued these are all that it sends
abbrev pub HandedOut : List Envelope → Option Exporter → Option Exporter → Type 0
HandedOut said None None = said ≡ []
HandedOut said (Some s) (Some whole) = (done : List Happening) × (record s { out = done ++ s.out } ≡ whole)
    × (sent_in done ≡ said)
HandedOut said _ _ = ⊥

-- no message of its own has a number past 4,294,967,295
abbrev pub IsNumbered : Option Exporter → Type 0
IsNumbered None = Unit {0}
IsNumbered (Some s) = is_spent s ≡ false

-- From its start on it did lines at the front of these, took these messages and handed out those, in an order that is
-- so for the lines that are left: what it handed out, and what it has queued, is all that the application sends that
-- its lines and the messages make. None of that has a number past the last one.
pub record IsAfter (IsOrder : List Event → List (List ℕ) → Type 0) (lines : List (List ℕ)) (s : Option Exporter)
    (took said : List Envelope) : Type 0 where
  pub history : List Event
  pub left : List (List ℕ)
  pub order : IsOrder history left
  pub all : lines_in history ++ left ≡ lines
  pub taken : taken_in history ≡ took
  pub whole : Option Exporter
  pub makes : Makes None history whole
  pub handed : HandedOut said s whole
  pub numbered : IsNumbered s

-- it has nothing left to hand out
abbrev pub IsEmpty : Option Exporter → Type 0
IsEmpty None = Unit {0}
IsEmpty (Some s) = s.out ≡ []

-- the messages that it sends for one more would pass number 4,294,967,295
abbrev pub IsSpent : Option Exporter → Envelope → Type 0
IsSpent None e = ⊥
IsSpent (Some s) e = is_spent (app_takes s e) ≡ true

-- it has not started where only a start may stand, or has where none may
abbrev pub MayNot : Option Exporter → Ask → Type 0
MayNot s ask.Nothing = ⊥
MayNot None (ask.Start name) = ⊥
MayNot (Some s) (ask.Start name) = Unit {0}
MayNot None (ask.Edit edit) = Unit {0}
MayNot (Some s) (ask.Edit edit) = ⊥
MayNot None (ask.Wait rounds) = Unit {0}
MayNot (Some s) (ask.Wait rounds) = ⊥

-- what may be asked for is refused: the name is too long, or the edit is refused
abbrev pub RefusedBy : Option Exporter → Ask → EditFault → Type 0
RefusedBy None (ask.Start name) why = (¬ IsName name) × (why ≡ TextFull)
RefusedBy (Some s) (ask.Edit edit) why = app_edits s edit ≡ Err why
RefusedBy s what why = ⊥

-- a line is refused for this
abbrev pub RefusedAs : Option Exporter → List ℕ → Refused → Type 0
RefusedAs s line refused.Long = ReadsLine (Err faults.Long) line
RefusedAs s line refused.NotUtf8 = ReadsLine (Err faults.NotUtf8) line
RefusedAs s line refused.Form = ((what : Ask) → IsAsk what line → ⊥) ⊎ ((what : Ask) × IsAsk what line × MayNot s what)
RefusedAs s line (refused.Edit why) = (what : Ask) × IsAsk what line × RefusedBy s what why

-- the next line is refused; where no line is left, an application was never asked for
abbrev pub RefusedNext : Option Exporter → List (List ℕ) → Refused → Type 0
RefusedNext s [] why = (s ≡ None) × (why ≡ refused.Form)
RefusedNext s (line ∷ rest) why = RefusedAs s line why

-- a line of these is refused, counted from 1: those before it were done, and these messages taken
pub record IsRefused (IsOrder : List Event → List (List ℕ) → Type 0) (lines : List (List ℕ)) (took : List Envelope)
    (number : ℕ) (why : Refused) : Type 0 where
  pub history : List Event
  pub left : List (List ℕ)
  pub order : IsOrder history left
  pub all : lines_in history ++ left ≡ lines
  pub taken : taken_in history ≡ took
  pub whole : Option Exporter
  pub makes : Makes None history whole
  pub numbered : IsNumbered whole
  pub next : RefusedNext whole left why
  pub counted : number ≡ length (lines_in history) + 1

-- a line of these asks for an edit whose messages would pass number 4,294,967,295
pub record IsSpentAt (IsOrder : List Event → List (List ℕ) → Type 0) (lines : List (List ℕ)) (took : List Envelope)
    : Type 0 where
  pub history : List Event
  pub line : List ℕ
  pub left : List (List ℕ)
  pub order : IsOrder history (line ∷ left)
  pub all : lines_in history ++ line ∷ left ≡ lines
  pub taken : taken_in history ≡ took
  pub whole : Exporter
  pub makes : Makes None history (Some whole)
  pub numbered : IsNumbered (Some whole)
  pub edit : Edit
  pub asks : IsAsk (ask.Edit edit) line
  pub spent : IsSpentAfter (app_edits whole edit)
