use Rattle.std.proofs.Common.{sym, ap, ◌∙◌}
use Rattle.std.specs.FinMap as finmap
use Rattle.atspi_pool.specs.Chains.{popped_by}
use Rattle.atspi_pool.specs.Store.{Store, held, chain_at}
use Rattle.atspi_bus_queues.proofs.Chains.{get_none, changes, one_changed, all_popped}
use Rattle.atspi_bus_queues.proofs.queue_map.QueueMap.open_queue.Goals as goal

pub add-requires : goal.add-requires
add-requires c = get_none c.self.inside.pool c.self.inside.chains.entries c.args.self.now c.args.conn c.self.view_is (sym c.in-None.ensures.value)

pub returns-in-Some-clause-ok : goal.returns-in-Some-clause-ok
returns-in-Some-clause-ok c =
    let pool = c.self.inside.pool in
    let chain = c.in-Some.chain.now in
    let at = sym c.in-Some.ensures.value in
    let new = popped_by (held (chain_at pool chain)) c.len-len.result in
    one_changed pool c.self.inside.chains.entries c.self.invariant c.pop.new.self c.args.conn chain new at
    (changes pool c.pop.new.self chain new (c.self.invariant.used c.args.conn chain at) (ap (λ (s : Store). s.chains) c.pop.ensures))
    ∙ ap (λ m. finmap.insert m c.args.conn new.bytes) c.self.view_is
    ∙ ap (finmap.insert c.args.self.now c.args.conn) (all_popped (held (chain_at pool chain)) c.len-len.result c.len-len.ensures)
