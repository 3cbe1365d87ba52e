use Rattle.std.proofs.Common.{◌+◌, ◌≤◌, length, map, sym, ap, ◌∙◌, subst, arith}
use Rattle.std.specs.List.{All}
use Rattle.std.proofs.lemmas.Result.{on_ok_weaker}
use Rattle.atspi_message.specs.Envelope.{envelope_of}
use Rattle.atspi_message_in_place.specs.View.{envelope_at}
use Rattle.atspi_names.specs.Owners.{unique_name}
use Rattle.atspi_names.proofs.UniqueLemmas.{is_bus_name-unique_name}
use Rattle.atspi_match.specs.routing.BusState.{BusState}
use Rattle.atspi_match.specs.routing.Queues.{Bus, stepped}
use Rattle.atspi_bus_steps.specs.InnerBus.{inner_of}
use Rattle.atspi_bus_steps.specs.Greeting.{greeting}
use Rattle.atspi_bus_steps.specs.Sayable.{MaySay}
use Rattle.atspi_bus_steps.specs.Sound.{IsSound}
use Rattle.atspi_bus_steps.proofs.Greetings.{greets-is, say-greeting, greeting-two}
use Rattle.atspi_bus_steps.proofs.Sounds.{sound-greeted}
use Rattle.atspi_bus_steps.proofs.Ends.{on_ok_both, greeted-step}
use Rattle.atspi_bus_steps.proofs.inner.Inner.greet.Goals as goal

pub say-requires-clause-sayable : goal.say-requires-clause-sayable
say-requires-clause-sayable c = subst (All MaySay) (sym c.in_ok-told.ensures) (say-greeting c.in-Ok.name (envelope_at c.args.m.now) c.requires.meets.numbered)

pub returns-clause-ok : goal.returns-clause-ok
returns-clause-ok c =
    let b = inner_of c.args.self.now in
    let e = envelope_at c.args.m.now in
    on_ok_weaker c.say.result
    (λ is. is ∙ greeted-step b c.args.conn e c.hello.new.self (map envelope_of c.in_ok-told.told.items) c.in-Ok.name c.in-Ok.ensures.owners c.in_ok-told.ensures c.in-Ok.ensures.name
    ∙ ap (stepped b) (sym (greets-is b.state c.args.conn e)))
    c.say.ensures.ok

pub returns-clause-sound : goal.returns-clause-sound
returns-clause-sound c =
    let b = inner_of c.args.self.now in
    let s = b.state in
    let e = envelope_at c.args.m.now in
    on_ok_both c.say.result
    (λ is ready.
    let same = ap (λ (x : Bus). x.state) (is ∙ greeted-step b c.args.conn e c.hello.new.self (map envelope_of c.in_ok-told.told.items) c.in-Ok.name c.in-Ok.ensures.owners c.in_ok-told.ensures c.in-Ok.ensures.name) in
    let two = greeting-two (unique_name s.owners.given) e in
    let given = c.requires.sound.given in
    let last = c.requires.sound.ready.last in
    subst IsSound (sym same)
    (sound-greeted s c.args.conn (s.next + length (greeting (unique_name s.owners.given) e)) c.requires.sound (is_bus_name-unique_name s.owners.given (omega arith)) (omega arith)
    (subst (λ (x : BusState). x.next ≤ 4294967296) same ready.last)))
    c.say.ensures.ok c.say.ensures.ready
