use Rattle.std.proofs.Common.{sym, ap, ◌≤◌, ◌∙◌, arith, List, ℕ, length, drop}
use Rattle.std.specs.FinMap as finmap
use Rattle.atspi_pool.specs.Chains.{popped_by}
use Rattle.atspi_pool.specs.Store.{Store, held, chain_at}
use Rattle.atspi_match.specs.routing.Queues.{or_nothing}
use Rattle.atspi_bus_queues.proofs.Chains.{get-at, get_none, changes, one_changed, popped-bytes, with_queue-some, with_queue-none}
use Rattle.atspi_bus_queues.proofs.queue_map.QueueMap.pop.Goals as goal

pub pop-requires-clause-bytes : goal.pop-requires-clause-bytes
pop-requires-clause-bytes c =
    omega (arith, ap (λ o. length (or_nothing o)) (get-at c.self.inside.pool c.self.inside.chains.entries c.args.self.now c.args.conn c.in-Some.chain.now c.self.view_is (sym c.in-Some.ensures.value)))

pub returns-in-Some : goal.returns-in-Some
returns-in-Some c =
    let pool = c.self.inside.pool in
    let chain = c.in-Some.chain.now in
    let at = sym c.in-Some.ensures.value in
    let old = held (chain_at pool chain) in
    let new = popped_by old c.args.n in
    let is = get-at pool c.self.inside.chains.entries c.args.self.now c.args.conn chain c.self.view_is at in
    let fits : c.args.n ≤ length old.bytes = omega (arith, ap (λ o. length (or_nothing o)) is) in
    one_changed pool c.self.inside.chains.entries c.self.invariant c.pop.new.self c.args.conn chain new at
    (changes pool c.pop.new.self chain new (c.self.invariant.used c.args.conn chain at) (ap (λ (s : Store). s.chains) c.pop.ensures))
    ∙ ap (λ m. finmap.insert m c.args.conn new.bytes) c.self.view_is
    ∙ ap (finmap.insert c.args.self.now c.args.conn) (popped-bytes old c.args.n fits ∙ ap (λ (l : List ℕ). drop c.args.n l) (sym (ap or_nothing is)))
    ∙ with_queue-some c.args.self.now c.args.conn old.bytes _ is

pub returns-in_default : goal.returns-in_default
returns-in_default c =
    with_queue-none c.args.self.now c.args.conn _ (get_none c.self.inside.pool c.self.inside.chains.entries c.args.self.now c.args.conn c.self.view_is (sym c.in_default.ensures.value))
