-- A live application: what it has done, what it hands out, and why a line of its input is not done.
use Rattle.std.specs.Prelude.{◌≡◌, ◌≤◌, ℕ, ◌+◌, List, [], ◌∷◌, ◌++◌, length, take, drop, Option, None, Some}
use Rattle.std.specs.Prelude.{MatchOption, ⊤}
use Rattle.atspi_message.specs.Envelope.{Envelope}
use Rattle.atspi_protocol.specs.exporting.Exporter.{Exporter}
use Rattle.atspi_app_known.specs.application.Seen.{IsSpentAfter}
use Rattle.atspi_protocol.specs.exporting.Taking.{app_edits}
use Rattle.atspi_live_app.specs.Lines.{lines_of}
use Rattle.atspi_live_app.specs.Input.{left_in}
use Rattle.atspi_live_app.specs.Standing.{Event, HandedOut, IsNumbered, IsRefused, IsSpentAt, Makes, MayNot, RefusedBy}
use Rattle.atspi_live_app.specs.Standing.{does, lines_in, taken_in, takes}
use Rattle.atspi_live_app.specs.declared.asking.Ask.{Ask}
use Rattle.atspi_live_app.specs.declared.asking.Ask.TheVariants as ask
use Rattle.atspi_live_app.specs.declared.doing.Undone.{Undone}
use Rattle.atspi_live_app.specs.declared.doing.Undone.TheVariants as undone
use Rattle.atspi_live_app.specs.declared.input.TheConstants.{INPUT_LIMIT}
use Rattle.atspi_live_app.specs.declared.live_app.Stop.{Stop}
use Rattle.atspi_live_app.specs.declared.live_app.Stop.TheVariants as stops

-- the application as it is seen, once it has started
abbrev pub seen : {A : Type 0} → (A → Exporter) → Option A → Option Exporter
seen exporter None = None
seen exporter (Some app) = Some (exporter app)

-- how much it has queued
abbrev pub queued_in : Option Exporter → ℕ
queued_in None = 0
queued_in (Some s) = length s.out

-- there is what it is to be made with, until it has started
abbrev pub IsKept : {A K : Type 0} → (A → Type 0) → (K → Type 0) → Option A → Option K → Type 0
IsKept is_app is_kit None kit = MatchOption kit ⊥ is_kit
IsKept is_app is_kit (Some app) kit = is_app app

-- how many messages were taken before each line was done, where so many were taken before all that happened
abbrev pub marks_in : ℕ → List Event → List ℕ
marks_in taken [] = []
marks_in taken (does line ∷ events) = taken ∷ marks_in taken events
marks_in taken (takes e ∷ events) = marks_in (taken + 1) events

-- the lines were done behind so many messages
abbrev pub IsMarked : List ℕ → List Event → List (List ℕ) → Type 0
IsMarked marks history left = marks_in 0 history ≡ marks

-- of the lines of this text it did the first, each behind so many messages, took these messages and handed out those
pub record Stands {A K : Type 0} (is_app : A → Type 0) (exporter : A → Exporter) (is_kit : K → Type 0)
    (text marks : List ℕ) (app : Option A) (kit : Option K) (held : List ℕ) (at number : ℕ)
    (took said : List Envelope) : Type 0 where
  pub kept : IsKept is_app is_kit app kit
  pub same : held ≡ text
  pub short : length text ≤ INPUT_LIMIT
  pub history : List Event
  pub all : lines_in history ++ left_in text at ≡ lines_of text
  pub marked : marks_in 0 history ≡ marks
  pub taken : taken_in history ≡ took
  pub whole : Option Exporter
  pub makes : Makes None history whole
  pub handed : HandedOut said (seen exporter app) whole
  pub numbered : IsNumbered (seen exporter app)
  pub counted : number ≡ length (lines_in history)

-- the same, where it tells this
abbrev pub StandsAt : {A K : Type 0} → (A → Type 0) → (A → Exporter) → (K → Type 0) → List ℕ → Option A → Option K
    → List ℕ → ℕ → ℕ → List Envelope → List Envelope → Type 0
StandsAt is_app exporter is_kit [] app kit held at number took said = ⊥
StandsAt is_app exporter is_kit (place ∷ []) app kit held at number took said = ⊥
StandsAt is_app exporter is_kit (place ∷ count ∷ told) app kit held at number took said =
    (at ≡ place) × Stands is_app exporter is_kit (drop count told) (take count told) app kit held at number took said

-- the edit would take its messages past the last number
abbrev pub SpentBy : Option Exporter → Ask → Type 0
SpentBy (Some s) (ask.Edit edit) = IsSpentAfter (app_edits s edit)
SpentBy s what = ⊥

-- why what is asked for is not done
abbrev pub IsUndone : Undone → Option Exporter → Ask → Type 0
IsUndone undone.Form s what = MayNot s what
IsUndone (undone.Refused why) s what = RefusedBy s what why
IsUndone undone.Spent s what = SpentBy s what
IsUndone undone.NoMemory s what = ⊤

-- why no further line is done
abbrev pub IsStopped : (List Event → List (List ℕ) → Type 0) → Stop → List (List ℕ) → List Envelope → Type 0
IsStopped IsOrder (stops.Refused number why) lines took = IsRefused IsOrder lines took number why
IsStopped IsOrder stops.Spent lines took = IsSpentAt IsOrder lines took
IsStopped IsOrder stops.NoMemory lines took = ⊤
