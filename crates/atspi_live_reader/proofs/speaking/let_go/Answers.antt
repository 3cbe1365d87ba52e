use Rattle.atspi_message.specs.Envelope.{envelope_of}
use Rattle.atspi_reader.specs.ReaderOf.{reader_of}
use Rattle.atspi_live_reader.proofs.Handing.{all_handed, none_left, some_handed}
use Rattle.atspi_live_reader.proofs.speaking.let_go.Goals as goal

pub returns-clause-gives : goal.returns-clause-gives
returns-clause-gives c =
    some_handed envelope_of c.next_message-message.result (reader_of c.args.reader.now) (reader_of c.next_message-message.new.reader) c.args.starved.now c.next_message-message.new.starved c.args.lines.now c.next_message-message.new.lines
    c.next_message-message.ensures.hands

pub returns-clause-all : goal.returns-clause-all
returns-clause-all c e = none_left c.next_message-message.result c.is_some.result _ c.is_some.ensures e c.next_message-message.ensures.all

pub returns-clause-fewer : goal.returns-clause-fewer
returns-clause-fewer c e = all_handed c.next_message-message.result c.is_some.result _ c.is_some.ensures e c.next_message-message.ensures.fewer
