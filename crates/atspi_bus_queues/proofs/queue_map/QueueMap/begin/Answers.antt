use Rattle.std.proofs.Common.{sym, ap, subst, ◌∙◌, arith, [], ◌++◌, length}
use Rattle.std.specs.Prelude.{IsSome}
use Rattle.std.specs.FinMap as finmap
use Rattle.atspi_match.specs.routing.Queues.{queue_of}
use Rattle.atspi_bus_queues.proofs.Chains.{get-insert_same, queue_of-insert, insert-insert, remove-insert}
use Rattle.atspi_bus_queues.proofs.queue_map.QueueMap.begin.Goals as goal

pub append-requires-clause-has : goal.append-requires-clause-has
append-requires-clause-has c = subst (λ m. IsSome (finmap.get m c.args.conn)) (sym c.in_ok-add.ensures.ok) (get-insert_same c.args.self.now c.args.conn [])

pub append-requires-clause-small : goal.append-requires-clause-small
append-requires-clause-small c =
    omega (arith, ap (λ m. length (queue_of m c.args.conn)) c.in_ok-add.ensures.ok, ap length (queue_of-insert c.args.self.now c.args.conn []))

pub returns-in-Ok-clause-ok : goal.returns-in-Ok-clause-ok
returns-in-Ok-clause-ok c =
    c.in-Ok.ensures.ok
    ∙ ap (λ m. finmap.insert m c.args.conn (queue_of m c.args.conn ++ c.args.bytes.now)) c.in_ok-add.ensures.ok
    ∙ ap (λ l. finmap.insert (finmap.insert c.args.self.now c.args.conn []) c.args.conn (l ++ c.args.bytes.now)) (queue_of-insert c.args.self.now c.args.conn [])
    ∙ insert-insert c.args.self.now c.args.conn [] c.args.bytes.now

pub returns-in-Err-clause-err : goal.returns-in-Err-clause-err
returns-in-Err-clause-err c =
    c.close.ensures ∙ ap (λ m. finmap.remove m c.args.conn) (c.in-Err.ensures.err ∙ c.in_ok-add.ensures.ok)
    ∙ remove-insert c.args.self.now c.args.conn [] c.requires.new
