use Rattle.std.proofs.Common.{◌≡◌, ap, ◌∙◌, arith, ◌+◌, cond, is_some, length, [], ℕ}
use Rattle.std.specs.FinMap as finmap
use Rattle.atspi_bus_queues.proofs.Chains.{has_room, no_chain, one_added, added_kept}
use Rattle.atspi_bus_queues.proofs.queue_map.QueueMap.add.Goals as goal

pub new_chain-requires : goal.new_chain-requires
new_chain-requires c =
    has_room c.self.inside.pool c.self.inside.chains.entries c.self.invariant c.args.conn (omega arith)
    (no_chain c.self.inside.pool c.self.inside.chains.entries c.args.conn (ap (λ m. finmap.get m c.args.conn) c.self.view_is ∙ c.requires))

pub invariant_of-self-in-Ok : goal.invariant_of-self-in-Ok
invariant_of-self-in-Ok c =
    let none = no_chain c.self.inside.pool c.self.inside.chains.entries c.args.conn (ap (λ m. finmap.get m c.args.conn) c.self.view_is ∙ c.requires) in
    let longer : length c.insert.new.self.entries ≡ length c.self.inside.chains.entries + 1 =
    omega (arith, c.in-Ok.ensures.len, ap (λ o. cond {A = ℕ} (is_some o) 0 1) (c.in-Ok.ensures.old ∙ none)) in
    added_kept c.self.inside.pool c.self.inside.chains.entries c.self.invariant c.new_chain.new.self c.insert.new.self.entries c.args.conn c.in_ok-chain.chain none
    c.in_ok-chain.ensures.number c.in_ok-chain.ensures.chains c.in-Ok.ensures.updates.0
    c.in_ok-chain.ensures.in_use longer c.in-Ok.ensures.ordered (omega arith)

pub returns-in-Ok-clause-ok : goal.returns-in-Ok-clause-ok
returns-in-Ok-clause-ok c =
    one_added c.self.inside.pool c.self.inside.chains.entries c.self.invariant c.new_chain.new.self c.insert.new.self.entries c.args.conn c.in_ok-chain.chain
    (no_chain c.self.inside.pool c.self.inside.chains.entries c.args.conn (ap (λ m. finmap.get m c.args.conn) c.self.view_is ∙ c.requires))
    c.in_ok-chain.ensures.number c.in_ok-chain.ensures.chains c.in-Ok.ensures.updates.0
    ∙ ap (λ m. finmap.insert m c.args.conn []) c.self.view_is
