use Rattle.std.proofs.Common.{◌≡◌, true, false, [], ◌∷◌, Some, None, codes, ap, ap₂, ◌∙◌, arith}
use Rattle.std.specs.List.{list_all}
use Rattle.std.proofs.lemmas.Option.{same_Some}
use Rattle.atspi_message.specs.Envelope.{Envelope}
use Rattle.atspi_protocol.specs.declared.following.question.Question.TheVariants.{AddMatch, GetChildren, Hello}
use Rattle.atspi_protocol.specs.following.Calls.{asking}
use Rattle.atspi_trace.specs.World.{Hearer, waits}
use Rattle.atspi_trace.specs.Hearing.{is_answered, may_ask}
use Rattle.atspi_trace_examples.specs.trace.Small.{asked, call, idle}
use Rattle.atspi_trace_examples.proofs.OfTrace.Asker.{hearer_is}
use Rattle.atspi_trace_examples.proofs.trace.own.no_call.Goals as goal

pub returns-clause-waits : goal.returns-clause-waits
returns-clause-waits c = λ b own.
    let waiting = asked (call 4 Hello waits ∷ []) in
    let clash : false ≡ true = ap (λ (h : Hearer). list_all is_answered h.asked) (hearer_is b 0 waiting 0 (asking 5 GetChildren) own) ∙ own.answered in
    absurd cc

pub returns-clause-unasked : goal.returns-clause-unasked
returns-clause-unasked c = λ b own.
    let rule = AddMatch (codes "type='signal'") in
    let questions : rule ≡ own.question = same_Some rule own.question own.read in
    let clash : false ≡ true = ap₂ may_ask (hearer_is b 0 idle 0 (asking 5 rule) own) questions ∙ own.allowed in
    absurd cc

pub returns-clause-serial : goal.returns-clause-serial
returns-clause-serial c = λ b own.
    let next : 5 ≡ own.hearer.next = ap (λ (h : Hearer). h.next) (hearer_is b 0 idle 0 (asking 6 Hello) own) in
    let serial : 6 ≡ own.hearer.next = ap (λ (e : Envelope). e.serial) own.spelled in
    omega (arith, next, serial)

pub returns-clause-signal : goal.returns-clause-signal
returns-clause-signal c = λ b own. let read : None ≡ Some own.question = own.read in absurd cc
