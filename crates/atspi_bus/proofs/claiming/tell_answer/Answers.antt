use Rattle.std.proofs.Common.{◌∷◌, [], map, sym, ap, ◌∙◌, subst}
use Rattle.std.specs.List.{All}
use Rattle.std.proofs.lemmas.List.{map-append}
use Rattle.std.proofs.lemmas.List.Elements.{All-append}
use Rattle.atspi_message.specs.Envelope.{envelope_of}
use Rattle.atspi_message_in_place.specs.View.{envelope_at}
use Rattle.atspi_match.specs.routing.Queues.{stepped}
use Rattle.atspi_match.specs.routing.Steps.{speaks}
use Rattle.atspi_bus_answers.specs.Answered.{reply_of}
use Rattle.atspi_bus_steps.specs.InnerBus.{inner_of, state_of}
use Rattle.atspi_bus_steps.specs.Sayable.{MaySay}
use Rattle.atspi_bus_steps.proofs.InPlace.{told-more}
use Rattle.atspi_bus_steps.proofs.Sayables.{say-reply, one_sayable}
use Rattle.atspi_bus.proofs.Claims.{told-replied, told-quiet}
use Rattle.atspi_bus.proofs.claiming.tell_answer.Goals as goal
use Rattle.atspi_bus.proofs.claiming.tell_answer.Goals.{then-expects_reply+in_ok-reply+in_ok-push, else-expects_reply}

pub say_each-requires-clause-sayable : goal.say_each-requires-clause-sayable
say_each-requires-clause-sayable c =
    let told = c.args.told in
    subst (All MaySay) (sym (ap (map envelope_of) c.from-rest.ensures.0))
    (elim c.if-expects_reply.branch [
      | then-expects_reply+in_ok-reply+in_ok-push w ↦
          let m = w.in_ok-reply.field-0 in
          subst (All MaySay) (sym (ap (λ v. map envelope_of v.items) w.told-is ∙ ap (map envelope_of) w.in_ok-push.ensures.items ∙ map-append envelope_of told.items (m ∷ [])))
          (All-append MaySay (map envelope_of told.items) (envelope_of m ∷ []) c.requires.sayable
          (one_sayable (envelope_of m) (subst MaySay (sym w.in_ok-reply.ensures)
          (say-reply (state_of c.args.inner.now) c.args.conn (envelope_at c.args.m.now).serial (reply_of c.args.reply) c.requires.meets.numbered c.requires.typed))))
      | else-expects_reply w ↦ subst (All MaySay) (sym (ap (λ v. map envelope_of v.items) w.told-is)) c.requires.sayable
    ])

pub returns-clause-ok : goal.returns-clause-ok
returns-clause-ok c =
    let told = c.args.told in
    let s = state_of c.args.inner.now in
    let e = envelope_at c.args.m.now in
    told-more _ _ _ c.say_each.result
    (λ is. is ∙ ap (λ l. stepped (inner_of c.args.inner.now) (speaks s l)) (ap (map envelope_of) c.from-rest.ensures.0
    ∙ elim c.if-expects_reply.branch [
      | then-expects_reply+in_ok-reply+in_ok-push w ↦
          let m = w.in_ok-reply.field-0 in
          ap (λ v. map envelope_of v.items) w.told-is ∙ ap (map envelope_of) w.in_ok-push.ensures.items ∙ map-append envelope_of told.items (m ∷ [])
          ∙ told-replied s c.args.conn e (reply_of c.args.reply) (map envelope_of told.items) (envelope_of m) (sym c.expects_reply.ensures ∙ w.if-expects_reply.true) w.in_ok-reply.ensures
      | else-expects_reply w ↦
          ap (λ v. map envelope_of v.items) w.told-is
          ∙ told-quiet s c.args.conn e (reply_of c.args.reply) (map envelope_of told.items) (sym c.expects_reply.ensures ∙ w.if-expects_reply.false)
    ]))
    c.say_each.ensures.ok
