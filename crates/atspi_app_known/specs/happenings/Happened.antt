-- How contracts see what happens at an application.
use Rattle.std.specs.Prelude.{ℕ, List, map}
use Rattle.atspi_message.specs.Envelope.{envelope_of}
use Rattle.atspi_protocol.specs.exporting.Exporter.{Happening, steps, sends, hears, deaf, sent_in}
use Rattle.atspi_app_known.specs.declared.happenings.event.AppEvent.{AppEvent}
use Rattle.atspi_app_known.specs.declared.happenings.event.AppEvent.TheVariants as events

abbrev pub happening_of : AppEvent → Happening
happening_of (events.Step step) = steps step
happening_of (events.Send message) = sends (envelope_of message)
happening_of (events.Hears bus pattern) = hears bus pattern
happening_of (events.Deaf bus pattern) = deaf bus pattern

abbrev pub all_happened : List AppEvent → List Happening
all_happened events = map happening_of events

-- how many of them are messages
abbrev pub sent_by : List AppEvent → ℕ
sent_by events = sent_in (all_happened events)
