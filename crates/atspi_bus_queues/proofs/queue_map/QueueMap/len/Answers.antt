use Rattle.std.proofs.Common.{sym, ap, ◌∙◌, length}
use Rattle.atspi_match.specs.routing.Queues.{or_nothing}
use Rattle.atspi_bus_queues.proofs.Chains.{get-at, get_none}
use Rattle.atspi_bus_queues.proofs.queue_map.QueueMap.len.Goals as goal

pub returns-in-Some : goal.returns-in-Some
returns-in-Some c =
    c.len.ensures ∙ sym (ap (λ o. length (or_nothing o)) (get-at c.self.inside.pool c.self.inside.chains.entries c.args.self.now c.args.conn c.in-Some.chain.now c.self.view_is (sym c.in-Some.ensures.value)))

pub returns-in-None : goal.returns-in-None
returns-in-None c =
    sym (ap (λ o. length (or_nothing o)) (get_none c.self.inside.pool c.self.inside.chains.entries c.args.self.now c.args.conn c.self.view_is (sym c.in-None.ensures.value)))
