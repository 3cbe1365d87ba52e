use Rattle.std.proofs.Common.{◌+◌, ◌≤◌, ◌++◌, List, ℕ, length, is_some, refl, sym, ap, ◌∙◌, arith}
use Rattle.std.specs.FinMap as finmap
use Rattle.atspi_pool.specs.Chains.{pushed}
use Rattle.atspi_pool.specs.Store.{Store, held, chain_at}
use Rattle.atspi_match.specs.routing.Queues.{or_nothing, queue_of}
use Rattle.atspi_bus_queues.proofs.Chains.{get-at, get_none, changes, one_changed, not_both}
use Rattle.atspi_bus_queues.proofs.queue_map.QueueMap.push_within.Goals as goal

pub returns-in_default-clause-ok : goal.returns-in_default-clause-ok
returns-in_default-clause-ok c = (
  λ s. not_both _ s.queue (get_none c.self.inside.pool c.self.inside.chains.entries c.args.self.now c.args.conn c.self.view_is (sym c.in_default.ensures.value)),
  refl,
)

pub returns-then-from-bytes-clause-ok : goal.returns-then-from-bytes-clause-ok
returns-then-from-bytes-clause-ok c = (
  λ s.
      let room : length (queue_of c.args.self.now c.args.conn) + length c.args.bytes.now ≤ c.args.quota = s.room in
      omega (arith, ap (λ o. length (or_nothing o)) (get-at c.self.inside.pool c.self.inside.chains.entries c.args.self.now c.args.conn c.in-Some.chain.now c.self.view_is (sym c.in-Some.ensures.value))),
  refl,
)

pub returns-clause-ok : goal.returns-clause-ok
returns-clause-ok c =
    let pool = c.self.inside.pool in
    let chain = c.in-Some.chain.now in
    let at = sym c.in-Some.ensures.value in
    let new = pushed (held (chain_at pool chain)) c.args.bytes.now in
    let is = get-at pool c.self.inside.chains.entries c.args.self.now c.args.conn chain c.self.view_is at in (
      record {
        queue = ap is_some is;
        room = omega (arith, ap (λ o. length (or_nothing o)) is);
      },
      one_changed pool c.self.inside.chains.entries c.self.invariant c.push.new.self c.args.conn chain new at
          (changes pool c.push.new.self chain new (c.self.invariant.used c.args.conn chain at) (ap (λ (s : Store). s.chains) c.in_ok-push.ensures.ok))
          ∙ ap (λ m. finmap.insert m c.args.conn new.bytes) c.self.view_is
          ∙ ap (λ (l : List ℕ). finmap.insert c.args.self.now c.args.conn (l ++ c.args.bytes.now)) (sym (ap or_nothing is)),
    )
