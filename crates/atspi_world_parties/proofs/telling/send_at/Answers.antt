use Rattle.std.proofs.Common.{get_or, ap}
use Rattle.atspi_world_parties.proofs.Elements.{sent_at}
use Rattle.atspi_world_parties.proofs.telling.send_at.Goals as goal

pub returns : goal.returns
returns c =
    let posts = c.args.posts.now in
    record {
      sent = sent_at c.send.result c.args.who c.args.message c.args.conn posts (get_or posts c.args.conn c.index-posts-place.result) c.send.new.post c.args.trace.now.items c.send.new.trace.items
          (ap (get_or posts c.args.conn) c.index-posts-place.is) c.send.ensures.up c.send.ensures.message c.send.ensures.told;
    }
