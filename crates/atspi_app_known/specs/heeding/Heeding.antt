-- Which messages are answered, and what the others do.
use Rattle.std.specs.Prelude.{ℕ, ◌==◌, ◌&&◌, not, Bool, true, false, Option, None, Some, is_some, if◌then◌else◌}
use Rattle.atspi_message.specs.Envelope.{Envelope}
use Rattle.atspi_protocol.specs.exporting.Exporter.{StartCall, Exporter}
use Rattle.atspi_protocol.specs.exporting.Starting.{awaited, goes_on, ends_start}
use Rattle.atspi_protocol.specs.exporting.Taking.{takes_signal}

-- none of its own calls waits for the message
abbrev pub is_own : Option StartCall → Bool
is_own None = false
is_own (Some call) = true

-- a call with a sender, once the application has its name
abbrev pub is_call : Exporter → Envelope → Bool
is_call s e = is_some s.name && (e.kind == 1) && is_some e.sender

abbrev pub is_answered : Exporter → Envelope → Bool
is_answered s e = not (is_own (awaited s.phase e)) && is_call s e

-- a message that one of its own calls waits for
abbrev pub heeds_own : Exporter → StartCall → Envelope → Exporter
heeds_own s call e = if e.kind == 2 then goes_on s call e.body else ends_start s

-- any other that is not answered
abbrev pub heeds_other : Exporter → Envelope → Exporter
heeds_other s e = if is_some s.name && (e.kind == 4) then takes_signal s e else s

abbrev pub heeds : Exporter → Envelope → Exporter
heeds s e = by (awaited s.phase e)
  where
    by : Option StartCall → Exporter
    by None = heeds_other s e
    by (Some call) = heeds_own s call e
