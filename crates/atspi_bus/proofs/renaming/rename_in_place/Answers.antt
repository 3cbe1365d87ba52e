use Rattle.std.proofs.Common.{◌∷◌, [], map, sym, ap, ◌∙◌, subst}
use Rattle.std.specs.List.{All}
use Rattle.std.proofs.lemmas.List.{map-append}
use Rattle.std.proofs.lemmas.List.Elements.{All-append}
use Rattle.atspi_message.specs.Envelope.{envelope_of}
use Rattle.atspi_message_in_place.specs.View.{envelope_at}
use Rattle.atspi_bus_answers.specs.Answered.{reply_of}
use Rattle.atspi_bus_steps.specs.InnerBus.{inner_of}
use Rattle.atspi_bus_steps.specs.Sayable.{MaySay, IsTyped}
use Rattle.atspi_bus_steps.proofs.InPlace.{either-way}
use Rattle.atspi_bus_steps.proofs.Sayables.{sayable, say-reply, one_sayable}
use Rattle.atspi_bus.proofs.Replying.{name-answer, name-bus, name-done, name-sound, name-told, name-quiet, both-more, err-more, always_err, sound-same}
use Rattle.atspi_bus.proofs.renaming.rename_in_place.Goals as goal
use Rattle.atspi_bus.proofs.renaming.rename_in_place.Goals.{then-expects_reply+in_ok-reply-2+in_ok-push, else-expects_reply}

pub returns-in_err-push-clause-err : goal.returns-in_err-push-clause-err
returns-in_err-push-clause-err c =
    let b = inner_of c.args.inner.now in
    let args = (envelope_at c.args.m.now).body in
    let h = c.in_ok-reply.ensures.ok in
    let a = name-answer b c.in_ok-names.names c.args.member c.args.conn args h.0 c.answer.new.names c.answer.new.rules c.new-told.result.items c.answer.new.told.items c.in_ok-reply.reply
    c.in_ok-names.ensures c.new-told.ensures.items h.2 in
    always_err c.from_residual-in_err-push.result
    (name-bus b c.args.member c.args.conn args h.0 c.answer.new.names c.answer.new.rules [] c.answer.new.told.items c.in_ok-reply.reply c.requires.changes a)

pub rename-requires-clause-sayable : goal.rename-requires-clause-sayable
rename-requires-clause-sayable c =
    let b = inner_of c.args.inner.now in
    let e = envelope_at c.args.m.now in
    let told = c.answer.new.told.items in
    let reply = c.in_ok-reply.reply in
    let h = c.in_ok-reply.ensures.ok in
    let a = name-answer b c.in_ok-names.names c.args.member c.args.conn e.body h.0 c.answer.new.names c.answer.new.rules c.new-told.result.items told reply c.in_ok-names.ensures
    c.new-told.ensures.items h.2 in
    let all = sayable c.args.member b.state c.args.conn e.body h.0 in
    let before = subst (All MaySay) (sym a.told) all.told in
    let typed = subst IsTyped (sym a.reply) all.typed in
    elim c.if-expects_reply.branch [
      | then-expects_reply+in_ok-reply-2+in_ok-push w ↦
          let m = w.in_ok-reply-2.field-0 in
          subst (All MaySay) (sym (ap (λ v. map envelope_of v.items) w.told-is ∙ ap (map envelope_of) w.in_ok-push.ensures.items ∙ map-append envelope_of told (m ∷ [])))
          (All-append MaySay (map envelope_of told) (envelope_of m ∷ []) before
          (one_sayable (envelope_of m) (subst MaySay (sym w.in_ok-reply-2.ensures)
          (say-reply (record b.state { rules = c.answer.new.rules }) c.args.conn e.serial (reply_of reply) c.requires.meets.numbered typed))))
      | else-expects_reply w ↦ subst (All MaySay) (sym (ap (λ v. map envelope_of v.items) w.told-is)) before
    ]

pub returns-clause-ok : goal.returns-clause-ok
returns-clause-ok c =
    let b = inner_of c.args.inner.now in
    let e = envelope_at c.args.m.now in
    let owners = c.answer.new.names in
    let rules = c.answer.new.rules in
    let told = c.answer.new.told.items in
    let reply = c.in_ok-reply.reply in
    let h = c.in_ok-reply.ensures.ok in
    let a = name-answer b c.in_ok-names.names c.args.member c.args.conn e.body h.0 owners rules c.new-told.result.items told reply c.in_ok-names.ensures c.new-told.ensures.items h.2 in
    both-more _ _ _ _ c.rename.result
    (λ is. (
      h.0,
      h.1,
      name-done b (inner_of c.rename.new.inner) c.args.member c.args.conn e h.0 owners rules [] told reply (map envelope_of c.if-expects_reply.told.items) c.requires.changes a
          (elim c.if-expects_reply.branch [
            | then-expects_reply+in_ok-reply-2+in_ok-push w ↦
                let m = w.in_ok-reply-2.field-0 in
                ap (λ v. map envelope_of v.items) w.told-is ∙ ap (map envelope_of) w.in_ok-push.ensures.items ∙ map-append envelope_of told (m ∷ [])
                ∙ name-told b c.args.member c.args.conn e h.0 owners rules told reply (envelope_of m) c.requires.changes a (sym c.expects_reply.ensures ∙ w.if-expects_reply.true) w.in_ok-reply-2.ensures
            | else-expects_reply w ↦
                ap (λ v. map envelope_of v.items) w.told-is
                ∙ name-quiet b c.args.member c.args.conn e h.0 owners rules told reply a (sym c.expects_reply.ensures ∙ w.if-expects_reply.false)
          ])
          is,
    ))
    (λ is. is ∙ name-bus b c.args.member c.args.conn e.body h.0 owners rules [] told reply c.requires.changes a)
    c.rename.ensures.ok

pub returns-clause-sound : goal.returns-clause-sound
returns-clause-sound c =
    let b = inner_of c.args.inner.now in
    let e = envelope_at c.args.m.now in
    let owners = c.answer.new.names in
    let rules = c.answer.new.rules in
    let told = c.answer.new.told.items in
    let reply = c.in_ok-reply.reply in
    let next = inner_of c.rename.new.inner in
    let h = c.in_ok-reply.ensures.ok in
    let a = name-answer b c.in_ok-names.names c.args.member c.args.conn e.body h.0 owners rules c.new-told.result.items told reply c.in_ok-names.ensures c.new-told.ensures.items h.2 in
    let same = name-bus b c.args.member c.args.conn e.body h.0 owners rules [] told reply c.requires.changes a in
    either-way c.rename.result c.rename.ensures.ok c.rename.ensures.err
    (λ is. name-sound b next c.args.member c.args.conn e h.0 owners rules [] told reply c.requires.sound a c.in_ok-reply.ensures.named c.rename.ensures.ready.last
    (name-done b next c.args.member c.args.conn e h.0 owners rules [] told reply (map envelope_of c.if-expects_reply.told.items) c.requires.changes a
    (elim c.if-expects_reply.branch [
      | then-expects_reply+in_ok-reply-2+in_ok-push w ↦
          let m = w.in_ok-reply-2.field-0 in
          ap (λ v. map envelope_of v.items) w.told-is ∙ ap (map envelope_of) w.in_ok-push.ensures.items ∙ map-append envelope_of told (m ∷ [])
          ∙ name-told b c.args.member c.args.conn e h.0 owners rules told reply (envelope_of m) c.requires.changes a (sym c.expects_reply.ensures ∙ w.if-expects_reply.true) w.in_ok-reply-2.ensures
      | else-expects_reply w ↦
          ap (λ v. map envelope_of v.items) w.told-is
          ∙ name-quiet b c.args.member c.args.conn e h.0 owners rules told reply a (sym c.expects_reply.ensures ∙ w.if-expects_reply.false)
    ])
    is))
    (λ is. sound-same b next (is ∙ same) c.requires.sound)
    (λ is. sound-same b next (is ∙ same) c.requires.sound)

pub returns-clause-err : goal.returns-clause-err
returns-clause-err c =
    let b = inner_of c.args.inner.now in
    let args = (envelope_at c.args.m.now).body in
    let h = c.in_ok-reply.ensures.ok in
    let a = name-answer b c.in_ok-names.names c.args.member c.args.conn args h.0 c.answer.new.names c.answer.new.rules c.new-told.result.items c.answer.new.told.items c.in_ok-reply.reply
    c.in_ok-names.ensures c.new-told.ensures.items h.2 in
    err-more _ _ c.rename.result
    (λ is. is ∙ name-bus b c.args.member c.args.conn args h.0 c.answer.new.names c.answer.new.rules [] c.answer.new.told.items c.in_ok-reply.reply c.requires.changes a)
    c.rename.ensures.err
