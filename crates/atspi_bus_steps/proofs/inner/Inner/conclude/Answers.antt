use Rattle.std.proofs.Common.{◌∷◌, [], map, sym, ap, ◌∙◌, subst}
use Rattle.std.specs.List.{All}
use Rattle.std.proofs.lemmas.List.{map-append}
use Rattle.std.proofs.lemmas.List.Elements.{All-append}
use Rattle.atspi_message.specs.Envelope.{envelope_of}
use Rattle.atspi_message_in_place.specs.View.{envelope_at}
use Rattle.atspi_bus_answers.specs.Answered.{reply_of}
use Rattle.atspi_bus_steps.specs.InnerBus.{state_of}
use Rattle.atspi_bus_steps.specs.Sayable.{MaySay}
use Rattle.atspi_bus_steps.proofs.Sayables.{say-reply, one_sayable}
use Rattle.atspi_bus_steps.proofs.inner.Inner.conclude.Goals as goal
use Rattle.atspi_bus_steps.proofs.inner.Inner.conclude.Goals.{then-expects_reply+in_ok-reply+in_ok-push, else-expects_reply}

pub say-requires-clause-sayable : goal.say-requires-clause-sayable
say-requires-clause-sayable c =
    let told = c.args.told in
    elim c.if-expects_reply.branch [
      | then-expects_reply+in_ok-reply+in_ok-push w ↦
          let m = w.in_ok-reply.field-0 in
          subst (All MaySay) (sym (ap (λ v. map envelope_of v.items) w.told-is ∙ ap (map envelope_of) w.in_ok-push.ensures.items ∙ map-append envelope_of told.items (m ∷ [])))
          (All-append MaySay (map envelope_of told.items) (envelope_of m ∷ []) c.requires.sayable
          (one_sayable (envelope_of m) (subst MaySay (sym w.in_ok-reply.ensures)
          (say-reply (state_of c.args.self.now) c.args.conn (envelope_at c.args.m.now).serial (reply_of c.args.reply) c.requires.meets.numbered c.requires.typed))))
      | else-expects_reply w ↦ subst (All MaySay) (sym (ap (λ v. map envelope_of v.items) w.told-is)) c.requires.sayable
    ]
