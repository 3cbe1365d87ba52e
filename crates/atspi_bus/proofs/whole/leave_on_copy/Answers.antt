use Rattle.std.proofs.Common.{◌<◌, sym, ap, ◌∙◌, subst}
use Rattle.atspi_match.specs.routing.Queues.{Bus, leaves}
use Rattle.atspi_bus_steps.specs.InnerBus.{inner_of}
use Rattle.atspi_bus_steps.specs.Sound.{IsSound}
use Rattle.atspi_bus.proofs.whole.leave_on_copy.Goals as goal

pub part_with-requires : goal.part_with-requires
part_with-requires c = record { sound = subst IsSound (sym (ap (λ (b : Bus). b.state) c.in_ok-after.ensures)) c.requires.sound }

pub returns-in-Ok-clause-ok : goal.returns-in-Ok-clause-ok
returns-in-Ok-clause-ok c = ap inner_of c.swap.ensures.x_after ∙ c.in-Ok.ensures.ok ∙ ap (λ (b : Bus). leaves b c.args.conn) c.in_ok-after.ensures

pub returns-clause-spent : goal.returns-clause-spent
returns-clause-spent c e =
    subst (λ (x : Bus). 4294967296 < (leaves x c.args.conn).state.next) c.in_ok-after.ensures (c.in-Err.ensures.spent e)
