use Rattle.std.proofs.Common.{sym, ◌∙◌}
use Rattle.atspi_bus_queues.proofs.Chains.{has_queue}
use Rattle.atspi_bus_queues.proofs.queue_map.QueueMap.has.Goals as goal

pub returns : goal.returns
returns c =
    let is = has_queue c.self.inside.pool c.self.inside.chains.entries c.args.self.now c.args.conn c.self.view_is in
    (λ t. is ∙ sym c.contains_key.ensures ∙ t, λ s. c.contains_key.ensures ∙ sym is ∙ s)
