use Rattle.std.proofs.Common.{◌≤◌, ◌++◌, sym, ap, ◌∙◌, subst, map, refl}
use Rattle.std.specs.List.{All}
use Rattle.atspi_message_in_place.specs.View.{envelope_at}
use Rattle.atspi_message.specs.Envelope.{envelope_of}
use Rattle.atspi_names.specs.Owners.{Owners}
use Rattle.atspi_match.specs.routing.BusState.{BusState}
use Rattle.atspi_match.specs.routing.Answers.{answers}
use Rattle.atspi_match.specs.routing.Queues.{Bus}
use Rattle.atspi_bus_answers.specs.Answered.{with_parts}
use Rattle.atspi_bus_steps.specs.InnerBus.{state_of}
use Rattle.atspi_bus_steps.specs.Sayable.{MaySay, IsTyped}
use Rattle.atspi_bus_steps.specs.Sound.{IsSound}
use Rattle.atspi_bus_steps.proofs.Sayables.{sayable}
use Rattle.atspi_bus_steps.proofs.Sounds.{given_answered}
use Rattle.atspi_bus_steps.proofs.Ends.{on_ok_both, sound-parts}
use Rattle.atspi_bus_steps.proofs.inner.Inner.answer.Goals as goal

pub conclude-requires-clause-sayable : goal.conclude-requires-clause-sayable
conclude-requires-clause-sayable c =
    let a = c.in_ok-reply.ensures.ok in
    let s = with_parts c.args.self.now.names c.args.self.now.rules in
    let x = answers c.args.member s c.args.conn (envelope_at c.args.m.now).body a.0 in
    subst (All MaySay) (sym (a.2.told ∙ ap (λ l. map envelope_of l ++ x.told) c.new-told.ensures.items)) (sayable c.args.member s c.args.conn (envelope_at c.args.m.now).body a.0).told

pub conclude-requires-clause-typed : goal.conclude-requires-clause-typed
conclude-requires-clause-typed c =
    let a = c.in_ok-reply.ensures.ok in
    let s = with_parts c.args.self.now.names c.args.self.now.rules in
    subst IsTyped (sym a.2.reply) (sayable c.args.member s c.args.conn (envelope_at c.args.m.now).body a.0).typed

pub returns-clause-sound : goal.returns-clause-sound
returns-clause-sound c =
    let a = c.in_ok-reply.ensures.ok in
    let s = with_parts c.args.self.now.names c.args.self.now.rules in
    on_ok_both c.conclude.result
    (λ is ready.
    let same = ap (λ (b : Bus). b.state) is in
    subst IsSound (sym same)
    (sound-parts (state_of c.args.self.now) c.answer.new.names c.answer.new.rules _ _ c.requires.sound
    (ap (λ (o : Owners). o.given) a.2.owners ∙ given_answered c.args.member s c.args.conn (envelope_at c.args.m.now).body a.0)
    c.in_ok-reply.ensures.named refl (subst (λ (x : BusState). x.next ≤ 4294967296) same ready.last)))
    c.conclude.ensures.ok c.conclude.ensures.ready
