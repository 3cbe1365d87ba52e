use Rattle.std.proofs.Common.{rules, refl, not, ◌==◌, ℕ}
use Rattle.std.proofs.lemmas.Fn.{filter_same}
use Rattle.atspi_match.specs.declared.routing.closing.Why.{Why}
use Rattle.atspi_bus_queues.proofs.Due.{popped-first}
use Rattle.atspi_bus_queues.proofs.due_list.take_out.Goals as goal

pub returns-in-Some : goal.returns-in-Some
returns-in-Some c =
    popped-first c.args.list.now.items c.pop_front.new.self.items c.pop_front.result c.in-Some.first.now c.args.conn c.requires
    c.pop_front.ensures.items (c.pop_front.ensures.variant.1 (c.in-Some.ensures.variant.0 refl)) c.in-Some.ensures.lookup c.if-first-conn.true

pub returns-in_default : goal.returns-in_default
returns-in_default c = filter_same _ (λ (d : ℕ × Why). not (d.0 == c.args.conn)) _ (λ x b f' r. search rules) _ _ c.retain.ensures.filtered
