use Rattle.atspi_world_moves.proofs.Leaving.{gone_set, who_is}
use Rattle.std.proofs.Common.{arith}
use Rattle.atspi_world_moves.proofs.carrier.Carrier.clear.Goals as goal

pub returns-clause-posts : goal.returns-clause-posts
returns-clause-posts c =
    gone_set c.args.self.now.posts.items c.args.conn c.index_mut-post.result.now c.leave.new.self (omega (arith, c.if-place-len.false, c.len.ensures)) c.index_mut-post.ensures.value c.leave.ensures

pub returns-clause-who : goal.returns-clause-who
returns-clause-who c = who_is c.args.self.now.posts.items c.args.conn c.index_mut-post.result.now (omega (arith, c.if-place-len.false, c.len.ensures)) c.index_mut-post.ensures.value
