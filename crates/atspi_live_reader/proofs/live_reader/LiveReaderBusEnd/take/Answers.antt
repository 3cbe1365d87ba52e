use Rattle.std.proofs.lemmas.Result.{on_ok_weaker}
use Rattle.atspi_reader.specs.ReaderOf.{reader_of}
use Rattle.atspi_message_in_place.specs.View.{envelope_at}
use Rattle.atspi_live_reader.proofs.Handing.{take_rests, took_one}
use Rattle.atspi_live_reader.proofs.live_reader.LiveReaderBusEnd.take.Goals as goal

pub returns-clause-ok : goal.returns-clause-ok
returns-clause-ok c = on_ok_weaker c.take.result
    (λ is aside took said f. took_one aside (reader_of c.args.self.now.reader) (reader_of c.take.new.self) c.args.self.now.starved c.args.self.now.lines (envelope_at c.args.m.now) took said c.take.ensures.stays is f)
    c.take.ensures.ok

pub take-requires : goal.take-requires
take-requires c = c.requires.stands.is

pub returns-clause-err : goal.returns-clause-err
returns-clause-err c = take_rests c.take.result (reader_of c.args.self.now.reader) (reader_of c.take.new.self) c.args.self.now.starved c.args.self.now.lines c.take.ensures.err
