use Rattle.std.proofs.Common.{◌≤◌, [], length}
use Rattle.atspi_reader.specs.ReaderOf.{IsReader, reader_of}
use Rattle.atspi_live_reader.specs.Handed.{GivesSo}
use Rattle.atspi_live_reader.proofs.speaking.next_message.Given as goal

abbrev pub invariant-events : goal.invariant-events
invariant-events l =
    record {
      gives : GivesSo [] (reader_of l.fn.reader) (reader_of l.reader) l.fn.starved l.starved l.fn.lines l.lines;
      is : IsReader l.reader;
    }

abbrev pub decreases-events : goal.decreases-events
decreases-events l = length (reader_of l.reader).out
