use Rattle.std.proofs.Common.{◌+◌, ◌≤◌, length, refl, sym, ap, ◌∙◌, subst, arith}
use Rattle.atspi_message_in_place.specs.View.{envelope_at}
use Rattle.atspi_names.specs.Owners.{unique_name}
use Rattle.atspi_names.proofs.UniqueLemmas.{is_bus_name-unique_name}
use Rattle.atspi_match.specs.routing.BusState.{BusState}
use Rattle.atspi_match.specs.routing.Queues.{Bus, stepped}
use Rattle.atspi_bus_steps.specs.InnerBus.{inner_of, state_of}
use Rattle.atspi_bus_steps.specs.Greeting.{greeting}
use Rattle.atspi_bus_steps.specs.Sound.{IsSound}
use Rattle.atspi_bus_steps.proofs.Greetings.{greets-is, greeting-two}
use Rattle.atspi_bus_steps.proofs.Sounds.{sound-greeted}
use Rattle.atspi_bus_steps.proofs.Ends.{greeted-step}
use Rattle.atspi_bus.proofs.Replying.{hello-kept, renamed-back, renamed-ready, sound-same}
use Rattle.atspi_bus.proofs.renaming.greet_in_place.Goals as goal

pub tell_name-requires-clause-ready : goal.tell_name-requires-clause-ready
tell_name-requires-clause-ready c = renamed-ready (state_of c.args.inner.now) c.hello.new.self c.requires.sound.ready

pub returns-in-Ok-true-clause-ok : goal.returns-in-Ok-true-clause-ok
returns-in-Ok-true-clause-ok c =
    let b = inner_of c.args.inner.now in
    let e = envelope_at c.args.m.now in
    let said = rw c.in-Ok-true.field-0-test at c.in-Ok-true.ensures.ok in
    said ∙ greeted-step b c.args.conn e c.hello.new.self (greeting c.in-Ok.name e) c.in-Ok.name c.in-Ok.ensures.owners refl c.in-Ok.ensures.name ∙ ap (stepped b) (sym (greets-is b.state c.args.conn e))

pub returns-in-Ok-true-clause-sound : goal.returns-in-Ok-true-clause-sound
returns-in-Ok-true-clause-sound c =
    let b = inner_of c.args.inner.now in
    let s = b.state in
    let e = envelope_at c.args.m.now in
    let said = rw c.in-Ok-true.field-0-test at c.in-Ok-true.ensures.ok in
    let same = ap (λ (x : Bus). x.state) (said ∙ greeted-step b c.args.conn e c.hello.new.self (greeting c.in-Ok.name e) c.in-Ok.name c.in-Ok.ensures.owners refl c.in-Ok.ensures.name) in
    let two = greeting-two (unique_name s.owners.given) e in
    let given = c.requires.sound.given in
    let last = c.requires.sound.ready.last in
    subst IsSound (sym same)
    (sound-greeted s c.args.conn (s.next + length (greeting (unique_name s.owners.given) e)) c.requires.sound (is_bus_name-unique_name s.owners.given (omega arith)) (omega arith)
    (subst (λ (x : BusState). x.next ≤ 4294967296) same c.tell_name.ensures.ready.last))

pub take_back_hello-requires : goal.take_back_hello-requires
take_back_hello-requires c =
    let b = inner_of c.args.inner.now in
    (b.state.owners, hello-kept b (inner_of c.tell_name.new.inner) c.hello.new.self c.args.conn c.in-Ok.ensures.after (rw c.in-Ok-false.field-0-test at c.in-Ok-false.ensures.ok))

pub returns-in-Ok-false-clause-ok : goal.returns-in-Ok-false-clause-ok
returns-in-Ok-false-clause-ok c =
    let b = inner_of c.args.inner.now in
    let same = rw c.in-Ok-false.field-0-test at c.in-Ok-false.ensures.ok in
    renamed-back b (inner_of c.tell_name.new.inner) c.hello.new.self c.take_back_hello.new.self same
    (c.take_back_hello.ensures b.state.owners (hello-kept b (inner_of c.tell_name.new.inner) c.hello.new.self c.args.conn c.in-Ok.ensures.after same))

pub returns-in-Ok-false-clause-sound : goal.returns-in-Ok-false-clause-sound
returns-in-Ok-false-clause-sound c = sound-same (inner_of c.args.inner.now) _ (returns-in-Ok-false-clause-ok c) c.requires.sound

pub take_back_hello-requires-in-Err : goal.take_back_hello-requires-in-Err
take_back_hello-requires-in-Err c =
    let b = inner_of c.args.inner.now in
    (b.state.owners, hello-kept b (inner_of c.tell_name.new.inner) c.hello.new.self c.args.conn c.in-Ok.ensures.after c.in-Err.ensures.err)
