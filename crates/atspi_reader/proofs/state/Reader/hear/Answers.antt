use Rattle.atspi_message_in_place.specs.View.{envelope_at}
use Rattle.atspi_reader.specs.ReaderOf.{reader_of}
use Rattle.atspi_reader.proofs.News.{heard_does, unheard, if_unheld}
use Rattle.atspi_reader.proofs.state.Reader.hear.Goals as goal

pub returns-in-Ok : goal.returns-in-Ok
returns-in-Ok c =
    let s = reader_of c.args.self.now in
    heard_does s (envelope_at c.args.m.now) c.args.child.now c.requires.new c.requires.made c.args.news.now c.requires.told
    c.settle_news.result c.in-Ok.next (reader_of c.say_and_ask.new.self) _ c.queued-queued.result
    (c.in-Ok.ensures c.args.child.now c.as_ref.ensures.value (if_unheld s.apps c.args.child.now c.requires.new))
    c.queued-queued.ensures c.settle_news.ensures.ok c.settle_news.ensures.err c.settle_news.ensures.memory

pub returns-in-Err : goal.returns-in-Err
returns-in-Err c =
    let s = reader_of c.args.self.now in
    unheard s (envelope_at c.args.m.now) c.args.child.now c.requires.new c.requires.made c.args.news.now c.requires.told c.in-Err.fault (reader_of c.say_and_ask.new.self)
    (c.in-Err.ensures c.args.child.now c.as_ref.ensures.value (if_unheld s.apps c.args.child.now c.requires.new))
