use Rattle.atspi_world_parties.proofs.Elements.{sends_at}
use Rattle.atspi_world_parties.proofs.telling.tell_reader_at.Goals as goal

pub returns-clause-told : goal.returns-clause-told
returns-clause-told g c =
    sends_at g.R.Follower.follower c.tell_reader.result c.args.readers.now _ c.tell_reader.new.reader c.args.number c.args.conn c.args.posts.now c.tell_reader.new.posts c.args.trace.now.items
    c.tell_reader.new.trace.items (cc (c.index-readers-place.is)) c.tell_reader.ensures.silent c.tell_reader.ensures.tells
