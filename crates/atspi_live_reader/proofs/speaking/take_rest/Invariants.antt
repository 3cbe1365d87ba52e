use Rattle.std.proofs.Common.{List, length}
use Rattle.atspi_message.specs.Envelope.{Envelope}
use Rattle.atspi_reader.specs.ReaderOf.{IsReader, reader_of}
use Rattle.atspi_live_reader.specs.Handed.{GivesSo}
use Rattle.atspi_live_reader.proofs.speaking.take_rest.Given as goal

abbrev pub invariant-messages : goal.invariant-messages
invariant-messages l =
    record {
      gives : (messages : List Envelope) × GivesSo messages (reader_of l.fn.reader) (reader_of l.reader) l.fn.starved l.starved l.fn.lines l.lines;
      is : IsReader l.reader;
    }

abbrev pub decreases-messages : goal.decreases-messages
decreases-messages l = length (reader_of l.reader).out
