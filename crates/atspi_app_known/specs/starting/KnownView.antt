-- How contracts see what an application knows: as the parts of its state that it is.
use Rattle.std.specs.Prelude.{ℕ, Option, None, Some}
use Rattle.atspi_protocol.specs.exporting.Exporter.{StartCall, hello, add_match, get_registered_events, embed, Phase}
use Rattle.atspi_protocol.specs.exporting.Exporter.{new, awaits, over, Exporter}
use Rattle.atspi_app_known.specs.happenings.View.{next_of, out_of}
use Rattle.atspi_app_known.specs.declared.starting.waiting.StartStep.{StartStep}
use Rattle.atspi_app_known.specs.declared.starting.waiting.StartStep.TheVariants as steps
use Rattle.atspi_app_known.specs.declared.starting.waiting.Waiting.{Waiting}
use Rattle.atspi_app_known.specs.declared.starting.waiting.Waiting.TheVariants as waiting
use Rattle.atspi_app_known.specs.declared.starting.known.Known.{Known}

abbrev pub call_of : StartStep → StartCall
call_of steps.Hello = hello
call_of steps.AddMatch = add_match
call_of steps.GetRegisteredEvents = get_registered_events
call_of steps.Embed = embed

abbrev pub call_or_none : Option StartStep → Option StartCall
call_or_none None = None
call_or_none (Some step) = Some (call_of step)

abbrev pub phase_of : Waiting → Phase
phase_of waiting.New = new
phase_of (waiting.Awaits step serial) = awaits (call_of step) serial
phase_of waiting.Over = over

-- the application that has these parts, and else those of another
abbrev pub known_in : Known → Exporter → Exporter
known_in k s = record s {
  name = k.name;
  heard = k.heard;
  phase = phase_of k.waiting;
  next = next_of k.queue;
  out = out_of k.queue;
}
