use Rattle.std.proofs.Common.{arith}
use Rattle.atspi_world_parties.proofs.RegistryTold.{tells_none, tells_first}
use Rattle.atspi_world_parties.proofs.telling.tell_first.Goals as goal

pub returns-then-posts-eq0 : goal.returns-then-posts-eq0
returns-then-posts-eq0 c = record { told = tells_none c.args.registry.now c.args.posts.now c.args.trace.now.items (omega arith) }

pub returns : goal.returns
returns c = record {
  told = tells_first c.tell_registry.result c.args.registry.now c.tell_registry.new.registry c.args.posts.now _ c.tell_registry.new.post c.args.trace.now.items c.tell_registry.new.trace.items (cc (c.index-posts-0.is))
      c.tell_registry.ensures.told;
}
