use Rattle.std.proofs.Common.{sym, ap, subst, ◌∙◌}
use Rattle.atspi_bus_queues.specs.DueList.{IsDueList}
use Rattle.atspi_bus_queues.proofs.Due.{others, list-others, others-none}
use Rattle.atspi_bus_queues.proofs.due_list.DueList.remove.Goals as goal

pub invariant_of-self : goal.invariant_of-self
invariant_of-self c =
    subst (λ l. IsDueList l c.remove.new.self) (sym c.take_out.ensures)
    (list-others c.self.inside.list.items c.self.inside.conns c.remove.new.self c.args.conn c.self.invariant c.remove.ensures.updates.0)

pub returns-else-remove : goal.returns-else-remove
returns-else-remove c =
    sym (others-none c.args.conn c.self.inside.list.items (sym (c.self.invariant.mirrored c.args.conn) ∙ sym c.remove.ensures.test ∙ c.if-remove.false))
    ∙ ap (others c.args.conn) c.self.view_is
