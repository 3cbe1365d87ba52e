use Rattle.std.proofs.Common.{refl, sym, ap, ◌∙◌}
use Rattle.std.specs.FinMap as finmap
use Rattle.atspi_bus_queues.proofs.Chains.{get_none, one_lost, none_changed, remove-none}
use Rattle.atspi_bus_queues.proofs.queue_map.QueueMap.close.Goals as goal

pub returns-in-Some : goal.returns-in-Some
returns-in-Some c =
    one_lost c.self.inside.pool c.self.inside.chains.entries c.self.invariant c.drop_chain.new.self c.remove.new.self.entries c.args.conn c.in-Some.chain
    (sym c.in-Some.ensures.value) c.drop_chain.ensures.chains c.remove.ensures.updates.0
    ∙ ap (λ m. finmap.remove m c.args.conn) c.self.view_is

pub returns-in_default : goal.returns-in_default
returns-in_default c =
    none_changed c.self.inside.pool c.self.inside.chains.entries c.self.invariant c.self.inside.pool c.remove.new.self.entries (λ q. refl) c.in_default.ensures.unchanged
    ∙ c.self.view_is
    ∙ remove-none c.args.self.now c.args.conn (get_none c.self.inside.pool c.self.inside.chains.entries c.args.self.now c.args.conn c.self.view_is (sym c.in_default.ensures.value))
