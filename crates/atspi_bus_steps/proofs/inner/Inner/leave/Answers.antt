use Rattle.std.proofs.Common.{sym, ap, subst}
use Rattle.atspi_match.specs.routing.Queues.{Bus}
use Rattle.atspi_bus_steps.specs.InnerBus.{inner_of}
use Rattle.atspi_bus_steps.specs.Sound.{IsSound}
use Rattle.atspi_bus_steps.proofs.Partings.{sound-forgotten}
use Rattle.atspi_bus_steps.proofs.inner.Inner.leave.Goals as goal

pub returns-in-None-clause-sound : goal.returns-in-None-clause-sound
returns-in-None-clause-sound c =
    subst IsSound (sym (ap (λ (b : Bus). b.state) c.forget.ensures)) (sound-forgotten (inner_of c.args.self.now) c.args.conn c.requires.sound)
