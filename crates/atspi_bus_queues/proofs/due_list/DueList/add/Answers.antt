use Rattle.std.proofs.Common.{ℕ, List, [], ◌∷◌, ◌++◌, sym, ap, subst, ◌∙◌}
use Rattle.atspi_match.specs.declared.routing.closing.Why.{Why}
use Rattle.atspi_match.specs.routing.Queues.{is_due}
use Rattle.atspi_bus_queues.specs.DueList.{IsDueList}
use Rattle.atspi_bus_queues.proofs.Due.{list-push}
use Rattle.atspi_bus_queues.proofs.due_list.DueList.add.Goals as goal

pub invariant_of-self-2 : goal.invariant_of-self-2
invariant_of-self-2 c =
    subst (λ l. IsDueList l c.insert.new.self) (sym (c.push_back_reserved.ensures.items ∙ ap (λ (l : List (ℕ × Why)). l ++ (c.args.conn, c.args.why) ∷ []) c.in_ok-reserve.ensures.items))
    (list-push c.self.inside.list.items c.self.inside.conns c.insert.new.self c.args.conn c.args.why c.self.invariant (ap (is_due c.args.conn) c.self.view_is ∙ c.requires) c.in_ok-insert.ensures.updates.0)
