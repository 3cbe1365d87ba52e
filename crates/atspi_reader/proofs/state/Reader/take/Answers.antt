use Rattle.atspi_message_in_place.specs.View.{envelope_at}
use Rattle.atspi_reader.specs.ReaderOf.{reader_of}
use Rattle.atspi_reader.proofs.Done.{does_stays}
use Rattle.atspi_reader.proofs.Kept.{before_going, takes_fine}
use Rattle.atspi_reader.proofs.state.Reader.take.Goals as goal

pub returns-clause-stays : goal.returns-clause-stays
returns-clause-stays c =
    let s = reader_of c.args.self.now in
    let e = envelope_at c.args.m.now in
    does_stays (before_going s e) (takes_fine s e c.requires.fine) c.take_any.result s (reader_of c.take_any.new.self) c.requires c.take_any.ensures
