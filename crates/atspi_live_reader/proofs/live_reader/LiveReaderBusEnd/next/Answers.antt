use Rattle.atspi_message.specs.Envelope.{envelope_of}
use Rattle.atspi_reader.specs.ReaderOf.{reader_of}
use Rattle.atspi_live_reader.proofs.Handing.{next_empty, next_hands_out, next_may_send, next_rests}
use Rattle.atspi_live_reader.proofs.live_reader.LiveReaderBusEnd.next.Goals as goal

pub returns-clause-some : goal.returns-clause-some
returns-clause-some c = next_hands_out envelope_of c.next_message.result (reader_of c.args.self.now.reader) (reader_of c.next_message.new.reader) c.args.self.now.starved c.next_message.new.starved c.args.self.now.lines c.next_message.new.lines c.next_message.ensures.stays c.next_message.ensures.hands

pub returns-clause-meets : goal.returns-clause-meets
returns-clause-meets c = next_may_send envelope_of c.next_message.result (reader_of c.args.self.now.reader) (reader_of c.next_message.new.reader) c.args.self.now.starved c.next_message.new.starved c.args.self.now.lines c.next_message.new.lines c.next_message.ensures.hands

pub returns-clause-none : goal.returns-clause-none
returns-clause-none c = next_rests envelope_of c.next_message.result (reader_of c.args.self.now.reader) (reader_of c.next_message.new.reader) c.args.self.now.starved c.next_message.new.starved c.args.self.now.lines c.next_message.new.lines c.next_message.ensures.stays c.next_message.ensures.hands

pub next_message-requires : goal.next_message-requires
next_message-requires c = c.requires.stands.is

pub returns-clause-empty : goal.returns-clause-empty
returns-clause-empty c = next_empty c.next_message.result (reader_of c.next_message.new.reader).out c.next_message.ensures.all
