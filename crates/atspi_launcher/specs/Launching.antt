-- What the launcher knows, and what it does with each message that it takes (at-spi2-core's interfaces org.a11y.Bus and
-- org.a11y.Status; D-Bus Specification, "Standard Interfaces").
use Rattle.std.specs.Prelude.{ℕ, ◌+◌, ◌==◌, Bool, true, false, List, [], ◌∷◌, ◌++◌, length, Option, None, Some, codes}
use Rattle.std.specs.Prelude.{if◌then◌else◌, Result, Ok, Err}
use Rattle.atspi_types.specs.Kinds.{u32, boolean, text, variant}
use Rattle.atspi_types.specs.Data.{Data, number_data, boolean_data, text_data, variant_data, dictionary_data}
use Rattle.atspi_types.specs.Data.{array_data, no_items, entry, no_entries}
use Rattle.atspi_message.specs.Envelope.{Envelope}
use Rattle.atspi_protocol.specs.ends.Places.{bus, bus_path}
use Rattle.atspi_protocol.specs.ends.Messages.{call_to, signal_of, returns, fails, replies, numbered, error_word}
use Rattle.atspi_protocol.specs.declared.ends.error.CallError.{CallError}
use Rattle.atspi_protocol.specs.members.Interfaces.{properties}
use Rattle.atspi_launcher.specs.declared.ask.Status.{Status}
use Rattle.atspi_launcher.specs.declared.ask.Status.TheVariants.{IsEnabled, ScreenReaderEnabled}
use Rattle.atspi_launcher.specs.declared.ask.Ask.{Ask}
use Rattle.atspi_launcher.specs.declared.ask.Ask.TheVariants as asks
use Rattle.atspi_launcher.specs.Asked.{launcher, launcher_path, status, name_of, asked}
use Rattle.atspi_launcher.specs.Described.{description}

-- The address that it tells, as characters; what the two properties say; and the number of its next message
pub record LauncherState : Type 0 where
  pub address : List ℕ
  pub enabled : Bool
  pub screen_reader : Bool
  pub next : ℕ

-- at the beginning both properties are true, since toolkits export what they show only where one of them is
abbrev pub begins : List ℕ → LauncherState
begins address = record { address = address; enabled = true; screen_reader = true; next = 1 }

abbrev pub value_of : LauncherState → Status → Bool
value_of s IsEnabled = s.enabled
value_of s ScreenReaderEnabled = s.screen_reader

abbrev pub with_value : LauncherState → Status → Bool → LauncherState
with_value s IsEnabled on = record s { enabled = on }
with_value s ScreenReaderEnabled on = record s { screen_reader = on }

-- the state afterwards, and what was sent
pub record LauncherStep : Type 0 where
  pub state : LauncherState
  pub sent : List Envelope

-- messages take the next numbers
abbrev pub speaks : LauncherState → List Envelope → LauncherStep
speaks s es = record { state = record s { next = s.next + length es }; sent = numbered s.next es }

-- the calls at its start: it takes its name from whoever lets it go, and does not wait for it
abbrev pub hello_call : Envelope
hello_call = call_to bus bus_path bus (codes "Hello") []

abbrev pub request_call : Envelope
request_call = call_to bus bus_path bus (codes "RequestName") (text_data launcher ∷ number_data u32 6 ∷ [])

abbrev pub launcher_starts : LauncherState → LauncherStep
launcher_starts s = speaks s (hello_call ∷ request_call ∷ [])

-- what is returned
abbrev pub as_variant : Bool → Data
as_variant on = variant_data boolean (boolean_data on)

abbrev pub all_values : LauncherState → Data
all_values s =
    dictionary_data text variant
    (entry (text_data (name_of IsEnabled)) (as_variant s.enabled)
    (entry (text_data (name_of ScreenReaderEnabled)) (as_variant s.screen_reader) no_entries))

abbrev pub values_of : LauncherState → Ask → List Data
values_of s asks.Address = text_data s.address ∷ []
values_of s (asks.Get p) = as_variant (value_of s p) ∷ []
values_of s asks.AllProperties = all_values s ∷ []
values_of s asks.NoProperties = dictionary_data text variant no_entries ∷ []
values_of s (asks.Set p on) = []
values_of s asks.Introspect = text_data description ∷ []
values_of s asks.Ping = []

-- what is told of a property that is set to another value
abbrev pub changed : Status → Bool → Envelope
changed p on =
    signal_of launcher_path properties (codes "PropertiesChanged")
    (text_data status ∷ dictionary_data text variant (entry (text_data (name_of p)) (as_variant on) no_entries)
    ∷ array_data text no_items ∷ [])

abbrev pub is_same : Bool → Bool → Bool
is_same true on = on
is_same false true = false
is_same false false = true

abbrev pub told_of : LauncherState → Status → Bool → List Envelope
told_of s p on = if is_same (value_of s p) on then [] else changed p on ∷ []

-- what a call does
abbrev pub done : LauncherState → Ask → LauncherState
done s (asks.Set p on) = with_value s p on
done s ask = s

abbrev pub news_of : LauncherState → Ask → List Envelope
news_of s (asks.Set p on) = told_of s p on
news_of s ask = []

abbrev pub answered : LauncherState → List ℕ → Envelope → Result Ask CallError → LauncherStep
answered s caller e (Ok ask) =
    speaks (done s ask) (news_of s ask ++ replies caller e (returns (values_of s ask)))
answered s caller e (Err error) = speaks s (replies caller e (fails (error_word error)))

abbrev pub called : LauncherState → List ℕ → Envelope → LauncherStep
called s caller e = answered s caller e (asked e)

-- a call without a sender is nobody's
abbrev pub called_by : LauncherState → Envelope → Option (List ℕ) → LauncherStep
called_by s e None = speaks s []
called_by s e (Some caller) = called s caller e

-- what is no call says nothing to it
abbrev pub launcher_takes : LauncherState → Envelope → LauncherStep
launcher_takes s e = if e.kind == 1 then called_by s e e.sender else speaks s []

-- the launcher as an end: what it knows, and the messages that it has queued
pub record Launcher : Type 0 where
  pub state : LauncherState
  pub out : List Envelope

abbrev pub queued : Launcher → LauncherStep → Launcher
queued l step = record { state = step.state; out = l.out ++ step.sent }

abbrev pub starts : Launcher → Launcher
starts l = queued l (launcher_starts l.state)

abbrev pub takes : Launcher → Envelope → Launcher
takes l e = queued l (launcher_takes l.state e)

-- a launcher that has just started
abbrev pub started : List ℕ → Launcher
started address = starts (record { state = begins address; out = [] })
