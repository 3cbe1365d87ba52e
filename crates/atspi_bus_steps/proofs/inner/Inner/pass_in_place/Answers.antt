use Rattle.std.proofs.Common.{List, ℕ, map, Some, refl, sym, subst}
use Rattle.atspi_message_in_place.specs.View.{envelope_at}
use Rattle.atspi_match.specs.routing.BusState as state
use Rattle.atspi_match.specs.routing.Routing.{receivers}
use Rattle.atspi_bus_steps.specs.inner.Handing.{WentToAll}
use Rattle.atspi_bus_steps.specs.InnerBus.{inner_of, state_of, call_of, parts}
use Rattle.atspi_bus_steps.specs.Sound.{IsSound}
use Rattle.atspi_bus_steps.specs.declared.open_call.OpenCall.{OpenCall}
use Rattle.atspi_bus_steps.proofs.Sounds.{sound-passed}
use Rattle.atspi_bus_steps.proofs.InPlace.{told-as, either-way, went-passed, unchanged, err_weaker}
use Rattle.atspi_bus_steps.proofs.inner.Inner.pass_in_place.Goals as goal

pub returns-clause-ok : goal.returns-clause-ok
returns-clause-ok c =
    let b = inner_of c.args.self.now in
    let e = envelope_at c.args.m.now in
    let noted = map call_of c.pass_signed.new.calls.items in
    told-as _ _ _ _ c.pass_signed.result
    (λ w. record {
      name = w.name;
      named = w.named;
      after_is =
          went-passed b c.args.conn (record e { sender = Some w.name }) noted c.pass_signed.new.queues
          (subst (λ (joined : List ℕ). WentToAll (parts joined b.state.owners b.state.rules) c.args.conn (record e { sender = Some w.name }) b.state.calls noted c.args.self.now.queues c.pass_signed.new.queues)
          c.deref.ensures.value w.went);
    })
    (λ same. unchanged b c.args.self.now.calls.items c.pass_signed.new.calls.items c.pass_signed.new.queues refl same.0 same.1)
    c.pass_signed.ensures.ok

pub returns-clause-sound : goal.returns-clause-sound
returns-clause-sound c =
    let s = state_of c.args.self.now in
    let e = envelope_at c.args.m.now in
    either-way c.pass_signed.result c.pass_signed.ensures.ok c.pass_signed.ensures.err
    (λ w. subst (λ (k : List state.OpenCall). IsSound (record s { calls = k })) (sym w.went.noted_is)
    (sound-passed s c.args.conn (record e { sender = Some w.name }) (receivers (parts c.deref.result.now s.owners s.rules) (record e { sender = Some w.name })) c.requires.sound c.requires.meets.numbered))
    (λ same. subst (λ (k : List OpenCall). IsSound (record s { calls = map call_of k })) (sym same.0) c.requires.sound)
    (λ same. subst (λ (k : List OpenCall). IsSound (record s { calls = map call_of k })) (sym same.0) c.requires.sound)

pub returns-clause-err : goal.returns-clause-err
returns-clause-err c =
    err_weaker c.pass_signed.result
    (λ same. unchanged (inner_of c.args.self.now) c.args.self.now.calls.items c.pass_signed.new.calls.items c.pass_signed.new.queues refl same.0 same.1)
    c.pass_signed.ensures.err
