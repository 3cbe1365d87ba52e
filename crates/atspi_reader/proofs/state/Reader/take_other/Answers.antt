use Rattle.atspi_message_in_place.specs.View.{envelope_at}
use Rattle.atspi_reader.specs.ReaderOf.{reader_of}
use Rattle.atspi_reader.proofs.Done.{noted_done}
use Rattle.atspi_reader.proofs.state.Reader.take_other.Goals as goal

pub returns : goal.returns
returns c = noted_done (reader_of c.args.self.now) (envelope_at c.args.m.now) _ _ (reader_of c.begin.new.self) (reader_of c.note.new.self) c.in_ok-begin.ensures c.note.ensures
