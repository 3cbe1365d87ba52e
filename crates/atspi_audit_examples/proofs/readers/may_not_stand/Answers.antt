use Rattle.std.proofs.Common.{◌≡◌, true, false, [], ◌∷◌, ap, ◌∙◌, arith}
use Rattle.std.specs.List.{list_all}
use Rattle.atspi_message.specs.Envelope.{Envelope}
use Rattle.atspi_protocol.specs.declared.following.question.Question.TheVariants.{GetChildren, Hello}
use Rattle.atspi_protocol.specs.following.Calls.{asking}
use Rattle.atspi_trace.specs.World.{Hearer, waits}
use Rattle.atspi_trace.specs.Hearing.{is_answered}
use Rattle.atspi_audit_examples.specs.Cases.{asked, call, idle}
use Rattle.atspi_audit_examples.proofs.Fronts.{hearer_is}
use Rattle.atspi_audit_examples.proofs.readers.may_not_stand.Goals as goal

pub returns-clause-waits : goal.returns-clause-waits
returns-clause-waits c = λ b own.
    let waiting = asked (call 4 Hello waits ∷ []) in
    let clash : false ≡ true = ap (λ (h : Hearer). list_all is_answered h.asked) (hearer_is b 0 waiting 0 (asking 5 GetChildren) own) ∙ own.answered in
    absurd cc

pub returns-clause-serial : goal.returns-clause-serial
returns-clause-serial c = λ b own.
    let next : 5 ≡ own.hearer.next = ap (λ (h : Hearer). h.next) (hearer_is b 0 idle 0 (asking 6 Hello) own) in
    let serial : 6 ≡ own.hearer.next = ap (λ (e : Envelope). e.serial) own.spelled in
    omega (arith, next, serial)
