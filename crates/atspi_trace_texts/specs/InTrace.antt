-- What a trace's text asks of the events that it tells: numbers and texts are those that their types hold, each end is
-- one that a script can name, and each message is one that can be written.
use Rattle.std.specs.Prelude.{◌≡◌, ◌<◌, ◌≤◌, ◌^◌, ℕ, true, List, length, is_some, IfSome, slice_index}
use Rattle.std.specs.Int.Signed.{mag}
use Rattle.std.specs.List.{AllByRecursion}
use Rattle.atspi_base.specs.valid_names.Names.{IsPath, IsBusName}
use Rattle.atspi_message.specs.Envelope.{Envelope, envelope_of}
use Rattle.atspi_message.specs.Rules.{MeetsRules, HasNames}
use Rattle.atspi_message.specs.Bytes.{FitsWire, rising_fields, written}
use Rattle.atspi_tree_model.specs.declared.limits.TheConstants.{STATE_COUNT}
use Rattle.atspi_tree_model.specs.declared.step.Step.{Step}
use Rattle.atspi_tree_model.specs.declared.step.Step.TheVariants.{Add}
use Rattle.atspi_tree_model.specs.declared.view.NumPart.{NumPart}
use Rattle.atspi_tree_model.specs.declared.view.NumPart.TheVariants.{Known as KnownNumber}
use Rattle.atspi_script_lines.specs.declared.limits.TheConstants.{APP_COUNT, READER_COUNT, PLACE_LIMIT, QUOTA_LEAST}
use Rattle.atspi_script_lines.specs.declared.limits.TheConstants.{QUOTA_MOST}
use Rattle.atspi_script_lines.specs.declared.line.Party.{Party}
use Rattle.atspi_script_lines.specs.declared.line.Party.TheVariants.{Bus, Registry, App, Reader}
use Rattle.atspi_script_lines.specs.Words.{Word, literal, number, place, quota, app_name, reader_name, party_name}
use Rattle.atspi_script_lines.specs.Words.{role_name, state_name, quote, IsText}
use Rattle.atspi_trace_events.specs.declared.event.Event.{Event}
use Rattle.atspi_trace_events.specs.declared.event.Event.TheVariants.{Start, Step as Stepped, Sent, Got, Hears, Deaf}
use Rattle.atspi_trace_events.specs.declared.event.Event.TheVariants.{Show, Exit, Dropped}
use Rattle.atspi_trace_events.specs.declared.shown.ShownRow.{ShownRow}
use Rattle.atspi_trace_texts.specs.EventForms.{event_form}
use Rattle.atspi_trace_texts.specs.Rows.{row_form}

-- an application or a reader that a script can name, the registry, the bus
abbrev pub IsEnd : Party → Type 0
IsEnd Bus = Unit {0}
IsEnd Registry = Unit {0}
IsEnd (App a) = a < APP_COUNT
IsEnd (Reader r) = r < READER_COUNT

-- what each word of a line can say
abbrev pub IsWord : Word → Type 0
IsWord (literal word) = Unit {0}
IsWord (number n) = n < 2 ^ 32
IsWord (place n) = n ≤ PLACE_LIMIT
IsWord (quota n) = (QUOTA_LEAST ≤ n) × (n ≤ QUOTA_MOST)
IsWord (app_name a) = a < APP_COUNT
IsWord (reader_name r) = r < READER_COUNT
IsWord (party_name who) = IsEnd who × (who ≡ Bus → ⊥)
IsWord (role_name role) = role < 2 ^ 32
IsWord (state_name state) = state < STATE_COUNT
IsWord (quote text) = IsText text

-- a message that can be written; its bytes are bytes
pub record IsWritable (e : Envelope) : Type 0 where
  pub meets : MeetsRules e
  pub named : HasNames e
  pub fits : FitsWire e (rising_fields e)
  pub bytes : (i : ℕ) → slice_index (written e) i < 256

-- a number that is known fits a u32
abbrev pub IsNumberPart : NumPart → Type 0
IsNumberPart (KnownNumber n) = n < 2 ^ 32
IsNumberPart _ = Unit {0}

-- a row that a reader shows
pub record IsShownRow (shown : ShownRow) : Type 0 where
  pub words : AllByRecursion IsWord (row_form shown)
  pub path : IsPath shown.row.path
  pub parent : IfSome shown.parent IsPath
  pub index : mag shown.index ≤ 2 ^ 31
  pub states : shown.row.states < 2 ^ 64
  pub faces : shown.row.faces < 32
  pub caret : IsNumberPart shown.row.caret
  pub columns : IsNumberPart shown.row.columns

-- rows that a reader shows
pub record AreShown (rows : List ShownRow) : Type 0 where
  pub each : AllByRecursion IsShownRow rows
  pub counted : length rows < 2 ^ 32

-- a new node can be edited only where it has a text
abbrev pub IsStep : Step → Type 0
IsStep (Add n p i seed) = seed.editable ≡ true → is_some seed.text ≡ true
IsStep _ = Unit {0}

-- what an event has beside words
abbrev pub HasParts : Event → Type 0
HasParts (Start who name) = IsEnd who
HasParts (Stepped app step) = IsStep step
HasParts (Sent who message) = IsEnd who × IsWritable (envelope_of message)
HasParts (Got taker sender serial) = IsEnd taker × IsEnd sender
HasParts (Hears app listener pattern) = IsBusName listener
HasParts (Deaf app listener pattern) = IsBusName listener
HasParts (Show reader app rows) = IfSome rows AreShown
HasParts (Exit who) = IsEnd who
HasParts (Dropped who queued len) = IsEnd who
HasParts _ = Unit {0}

-- an event that a trace can tell
pub record IsEvent (event : Event) : Type 0 where
  pub words : AllByRecursion IsWord (event_form event)
  pub parts : HasParts event
