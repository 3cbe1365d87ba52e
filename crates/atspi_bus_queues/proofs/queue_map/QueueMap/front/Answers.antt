use Rattle.std.proofs.Common.{refl, sym, ap, subst, List, ℕ, length, ◌≡◌}
use Rattle.std.specs.Prelude.{◌↔◌}
use Rattle.atspi_pool.specs.Store.{held, chain_at}
use Rattle.atspi_match.specs.routing.Queues.{or_nothing}
use Rattle.atspi_bus_queues.proofs.Chains.{get-at, get_none, front-begins}
use Rattle.atspi_bus_queues.proofs.queue_map.QueueMap.front.Goals as goal

pub returns-in-Some-clause-begins : goal.returns-in-Some-clause-begins
returns-in-Some-clause-begins c =
    front-begins (held (chain_at c.self.inside.pool c.in-Some.chain.now)) _ _
    (ap or_nothing (get-at c.self.inside.pool c.self.inside.chains.entries c.args.self.now c.args.conn c.in-Some.chain.now c.self.view_is (sym c.in-Some.ensures.value)))
    c.front.ensures.bytes

pub returns-in-Some-clause-empty : goal.returns-in-Some-clause-empty
returns-in-Some-clause-empty c =
    subst (λ (l : List ℕ). (length c.front.result.now ≡ 0) ↔ (length l ≡ 0))
    (sym (ap or_nothing (get-at c.self.inside.pool c.self.inside.chains.entries c.args.self.now c.args.conn c.in-Some.chain.now c.self.view_is (sym c.in-Some.ensures.value))))
    c.front.ensures.empty

pub returns-in-None-clause-empty : goal.returns-in-None-clause-empty
returns-in-None-clause-empty c = (
  λ e. ap (λ o. length (or_nothing o)) (get_none c.self.inside.pool c.self.inside.chains.entries c.args.self.now c.args.conn c.self.view_is (sym c.in-None.ensures.value)),
  λ e. refl,
)
