-- A reader, as the definitions see it.
use Rattle.std.specs.Option.{option_map}
use Rattle.atspi_protocol.specs.following.ReaderState.{Pending, ReaderState}
use Rattle.atspi_reader.specs.Doing.{all_done}
use Rattle.atspi_reader.specs.Steps.{IsState}
use Rattle.atspi_reader.specs.declared.waiting.Waiting.{Waiting}
use Rattle.atspi_reader.specs.declared.state.Reader.{Reader}

abbrev pub pending_of : Waiting → Pending
pending_of w = record { serial = w.serial; question = w.question }

abbrev pub reader_of : Reader → ReaderState
reader_of r = record {
  to_come = r.to_come.items;
  pending = option_map pending_of r.pending;
  registry = r.registry;
  apps = r.apps;
  next = r.number;
  out = all_done r.out.items;
}

-- so it is at first, and after each call
abbrev pub IsReader : Reader → Type 0
IsReader r = IsState (reader_of r)
