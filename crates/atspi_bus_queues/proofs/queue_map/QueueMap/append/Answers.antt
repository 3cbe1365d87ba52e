use Rattle.std.proofs.Common.{sym, ap, ◌∙◌, arith, ◌++◌, length}
use Rattle.std.specs.FinMap as finmap
use Rattle.std.proofs.lemmas.Result.{on_ok_weaker}
use Rattle.atspi_pool.specs.Chains.{pushed}
use Rattle.atspi_pool.specs.Store.{Store, held, chain_at}
use Rattle.atspi_match.specs.routing.Queues.{or_nothing}
use Rattle.atspi_bus_queues.proofs.Chains.{get-at, get_none, changes, one_changed, not_both}
use Rattle.atspi_bus_queues.proofs.queue_map.QueueMap.append.Goals as goal

pub push-requires-clause-small : goal.push-requires-clause-small
push-requires-clause-small c =
    omega (arith, ap (λ o. length (or_nothing o)) (get-at c.self.inside.pool c.self.inside.chains.entries c.args.self.now c.args.conn c.in-Some.chain.now c.self.view_is (sym c.in-Some.ensures.value)))

pub unreachable-requires : goal.unreachable-requires
unreachable-requires c =
    not_both _ c.requires.has (get_none c.self.inside.pool c.self.inside.chains.entries c.args.self.now c.args.conn c.self.view_is (sym c.in-None.ensures.value))

pub returns-clause-ok : goal.returns-clause-ok
returns-clause-ok c =
    let pool = c.self.inside.pool in
    let chain = c.in-Some.chain.now in
    let at = sym c.in-Some.ensures.value in
    let new = pushed (held (chain_at pool chain)) c.args.bytes.now in
    on_ok_weaker c.push.result
    (λ e. one_changed pool c.self.inside.chains.entries c.self.invariant c.push.new.self c.args.conn chain new at
    (changes pool c.push.new.self chain new (c.self.invariant.used c.args.conn chain at) (ap (λ (s : Store). s.chains) e))
    ∙ ap (λ m. finmap.insert m c.args.conn new.bytes) c.self.view_is
    ∙ ap (λ l. finmap.insert c.args.self.now c.args.conn (l ++ c.args.bytes.now)) (sym (ap or_nothing (get-at pool c.self.inside.chains.entries c.args.self.now c.args.conn chain c.self.view_is at))))
    c.push.ensures.ok
