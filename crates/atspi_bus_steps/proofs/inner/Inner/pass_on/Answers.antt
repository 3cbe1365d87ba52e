use Rattle.std.proofs.Common.{sym, ap, subst}
use Rattle.std.proofs.lemmas.Result.{on_ok_weaker}
use Rattle.atspi_message_in_place.specs.View.{envelope_at}
use Rattle.atspi_match.specs.routing.Routing.{receivers}
use Rattle.atspi_match.specs.routing.Queues.{Bus}
use Rattle.atspi_bus_steps.specs.InnerBus.{state_of}
use Rattle.atspi_bus_steps.specs.Sound.{IsSound}
use Rattle.atspi_bus_steps.proofs.Sounds.{sound-passed}
use Rattle.atspi_bus_steps.proofs.inner.Inner.pass_on.Goals as goal

pub returns-clause-sound : goal.returns-clause-sound
returns-clause-sound c =
    let s = state_of c.args.self.now in
    let e = envelope_at c.args.m.now in
    on_ok_weaker c.forward.result
    (λ is. subst IsSound (sym (ap (λ (b : Bus). b.state) is)) (sound-passed s c.args.conn e (receivers s e) c.requires.sound c.requires.meets.numbered))
    c.forward.ensures.ok
