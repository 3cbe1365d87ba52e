use Rattle.std.proofs.Common.{[], refl, sym, ap, ◌∙◌, subst}
use Rattle.std.specs.List.{All}
use Rattle.atspi_message_in_place.specs.View.{envelope_at}
use Rattle.atspi_names.specs.Owners.{Owners, after_release}
use Rattle.atspi_match.specs.declared.routing.member.BusMember.TheVariants.{RequestName}
use Rattle.atspi_match.specs.routing.Answers.{answers, second_number}
use Rattle.atspi_match.specs.routing.Queues.{Bus}
use Rattle.atspi_bus_steps.specs.InnerBus.{inner_of}
use Rattle.atspi_bus_steps.specs.Sayable.{MaySay, IsTyped}
use Rattle.atspi_bus_steps.proofs.Sayables.{sayable}
use Rattle.atspi_bus.proofs.Replying.{name-answer, name_rules, name-sound, sound-same}
use Rattle.atspi_bus.proofs.Claims.{answered-in_place, claim-undone, claimed-owners, claimed-back}
use Rattle.atspi_bus.proofs.claiming.claim_in_place.Goals as goal

pub tell_answer-requires-clause-sayable : goal.tell_answer-requires-clause-sayable
tell_answer-requires-clause-sayable c =
    let b = inner_of c.args.inner.now in
    let e = envelope_at c.args.m.now in
    let h = c.in_ok-reply.ensures.ok in
    let a = name-answer b b.state.owners RequestName c.args.conn e.body h.0 c.answer.new.names c.answer.new.rules c.new-told.result.items c.answer.new.told.items c.in_ok-reply.reply
    refl c.new-told.ensures.items h.2 in
    subst (All MaySay) (sym a.told) (sayable RequestName b.state c.args.conn e.body h.0).told

pub tell_answer-requires-clause-typed : goal.tell_answer-requires-clause-typed
tell_answer-requires-clause-typed c =
    let b = inner_of c.args.inner.now in
    let e = envelope_at c.args.m.now in
    let h = c.in_ok-reply.ensures.ok in
    let a = name-answer b b.state.owners RequestName c.args.conn e.body h.0 c.answer.new.names c.answer.new.rules c.new-told.result.items c.answer.new.told.items c.in_ok-reply.reply
    refl c.new-told.ensures.items h.2 in
    subst IsTyped (sym a.reply) (sayable RequestName b.state c.args.conn e.body h.0).typed

pub returns-in-Ok-true-clause-ok : goal.returns-in-Ok-true-clause-ok
returns-in-Ok-true-clause-ok c =
    let b = inner_of c.args.inner.now in
    let e = envelope_at c.args.m.now in
    let h = c.in_ok-reply.ensures.ok in
    let a = name-answer b b.state.owners RequestName c.args.conn e.body h.0 c.answer.new.names c.answer.new.rules c.new-told.result.items c.answer.new.told.items c.in_ok-reply.reply
    refl c.new-told.ensures.items h.2 in (
      h.0,
      h.1,
      answered-in_place b (inner_of c.tell_answer.new.inner) c.args.conn e (answers RequestName b.state c.args.conn e.body h.0) c.answer.new.names c.answer.new.rules c.answer.new.told.items c.in_ok-reply.reply
          a (rw c.in-Ok-true.field-0-test at c.in-Ok-true.ensures.ok),
    )

pub returns-in-Ok-true-clause-sound : goal.returns-in-Ok-true-clause-sound
returns-in-Ok-true-clause-sound c =
    let b = inner_of c.args.inner.now in
    let e = envelope_at c.args.m.now in
    let h = c.in_ok-reply.ensures.ok in
    let a = name-answer b b.state.owners RequestName c.args.conn e.body h.0 c.answer.new.names c.answer.new.rules c.new-told.result.items c.answer.new.told.items c.in_ok-reply.reply
    refl c.new-told.ensures.items h.2 in
    name-sound b (inner_of c.tell_answer.new.inner) RequestName c.args.conn e h.0 c.answer.new.names c.answer.new.rules [] c.answer.new.told.items c.in_ok-reply.reply c.requires.sound a
    c.in_ok-reply.ensures.named c.tell_answer.ensures.ready.last (returns-in-Ok-true-clause-ok c).2

pub returns-in-Ok-false-clause-ok : goal.returns-in-Ok-false-clause-ok
returns-in-Ok-false-clause-ok c =
    let b = inner_of c.args.inner.now in
    let e = envelope_at c.args.m.now in
    let h = c.in_ok-reply.ensures.ok in
    let a = name-answer b b.state.owners RequestName c.args.conn e.body h.0 c.answer.new.names c.answer.new.rules c.new-told.result.items c.answer.new.told.items c.in_ok-reply.reply
    refl c.new-told.ensures.items h.2 in
    let same = rw c.in-Ok-false.field-0-test at c.in-Ok-false.ensures.ok in
    claimed-back b (inner_of c.tell_answer.new.inner) c.answer.new.names c.release.new.self c.answer.new.rules same
    (a.rules ∙ name_rules RequestName b.state c.args.conn e.body h.0 refl)
    (c.release.ensures.owners
    ∙ ap (λ (o : Owners). after_release o c.args.conn c.args.name.now) (ap (λ (x : Bus). x.state.owners) same ∙ a.owners ∙ claimed-owners b.state c.args.conn e.body h.0 c.args.name.now c.requires.free)
    ∙ claim-undone b.state.owners c.args.conn (second_number e.body) c.args.name.now c.requires.free.free)

pub returns-in-Ok-false-clause-sound : goal.returns-in-Ok-false-clause-sound
returns-in-Ok-false-clause-sound c = sound-same (inner_of c.args.inner.now) _ (returns-in-Ok-false-clause-ok c) c.requires.sound

pub returns-in-Err-clause-err : goal.returns-in-Err-clause-err
returns-in-Err-clause-err c =
    let b = inner_of c.args.inner.now in
    let e = envelope_at c.args.m.now in
    let h = c.in_ok-reply.ensures.ok in
    let a = name-answer b b.state.owners RequestName c.args.conn e.body h.0 c.answer.new.names c.answer.new.rules c.new-told.result.items c.answer.new.told.items c.in_ok-reply.reply
    refl c.new-told.ensures.items h.2 in
    claimed-back b (inner_of c.tell_answer.new.inner) c.answer.new.names c.release-in-Err.new.self c.answer.new.rules c.in-Err.ensures.err
    (a.rules ∙ name_rules RequestName b.state c.args.conn e.body h.0 refl)
    (c.release-in-Err.ensures.owners
    ∙ ap (λ (o : Owners). after_release o c.args.conn c.args.name.now)
    (ap (λ (x : Bus). x.state.owners) c.in-Err.ensures.err ∙ a.owners ∙ claimed-owners b.state c.args.conn e.body h.0 c.args.name.now c.requires.free)
    ∙ claim-undone b.state.owners c.args.conn (second_number e.body) c.args.name.now c.requires.free.free)

pub returns-in-Err-clause-sound : goal.returns-in-Err-clause-sound
returns-in-Err-clause-sound c = sound-same (inner_of c.args.inner.now) _ (returns-in-Err-clause-err c) c.requires.sound
