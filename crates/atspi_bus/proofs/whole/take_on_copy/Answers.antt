use Rattle.std.proofs.Common.{◌<◌, List, Option, sym, ap, subst}
use Rattle.atspi_message_in_place.specs.View.{envelope_at}
use Rattle.atspi_match.specs.declared.condition.Condition.{Condition}
use Rattle.atspi_match.specs.routing.Queues.{Bus, takes}
use Rattle.atspi_bus_steps.specs.InnerBus.{inner_of}
use Rattle.atspi_bus_steps.specs.Sound.{IsSound}
use Rattle.atspi_bus_steps.specs.Spoken.{IsRuleTaken}
use Rattle.atspi_bus.proofs.Joined.{taken-like}
use Rattle.atspi_bus.proofs.whole.take_on_copy.Goals as goal

pub take-requires-clause-sound : goal.take-requires-clause-sound
take-requires-clause-sound c = subst IsSound (sym (ap (λ (b : Bus). b.state) c.in_ok-after.ensures)) c.requires.sound

pub returns-in-Ok-clause-ok : goal.returns-in-Ok-clause-ok
returns-in-Ok-clause-ok c =
    rw c.swap.ensures.x_after (taken-like (inner_of c.in_ok-after.after) (inner_of c.args.inner.now) (inner_of c.take.new.self) c.args.conn (envelope_at c.args.m.now) c.in_ok-after.ensures c.in-Ok.ensures.ok)

pub returns-clause-spent : goal.returns-clause-spent
returns-clause-spent c e =
    subst (λ (x : Bus). (rule : Option (List Condition)) × IsRuleTaken x.state c.args.conn (envelope_at c.args.m.now) rule
    × (4294967296 < (takes x c.args.conn (envelope_at c.args.m.now) rule).state.next))
    c.in_ok-after.ensures (c.in-Err.ensures.spent e)
