use Rattle.std.proofs.Common.{sym, ap, ◌∙◌, ◌++◌}
use Rattle.std.specs.FinMap as finmap
use Rattle.std.proofs.lemmas.Result.{on_ok_weaker}
use Rattle.atspi_match.specs.routing.Queues.{or_nothing}
use Rattle.atspi_bus_queues.proofs.Chains.{has_queue, none_of}
use Rattle.atspi_bus_queues.proofs.queue_map.QueueMap.push.Goals as goal

pub append-requires-clause-has : goal.append-requires-clause-has
append-requires-clause-has c =
    has_queue c.self.inside.pool c.self.inside.chains.entries c.args.self.now c.args.conn c.self.view_is ∙ sym c.contains_key.ensures ∙ c.if-contains_key.true

pub begin-requires-clause-new : goal.begin-requires-clause-new
begin-requires-clause-new c =
    none_of _ (has_queue c.self.inside.pool c.self.inside.chains.entries c.args.self.now c.args.conn c.self.view_is ∙ sym c.contains_key.ensures ∙ c.if-contains_key.false)

pub returns-else-contains_key-clause-ok : goal.returns-else-contains_key-clause-ok
returns-else-contains_key-clause-ok c =
    on_ok_weaker c.begin.result
    (λ e. e ∙ ap (λ o. finmap.insert c.args.self.now c.args.conn (or_nothing o ++ c.args.bytes.now))
    (sym (none_of _ (has_queue c.self.inside.pool c.self.inside.chains.entries c.args.self.now c.args.conn c.self.view_is ∙ sym c.contains_key.ensures ∙ c.if-contains_key.false))))
    c.begin.ensures.ok
