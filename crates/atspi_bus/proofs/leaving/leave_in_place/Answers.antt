use Rattle.std.proofs.Common.{ℕ, ◌≤◌, List, map, length, sym, ap, ◌∙◌, subst}
use Rattle.std.specs.List.{All}
use Rattle.atspi_message.specs.Envelope.{envelope_of}
use Rattle.atspi_match.specs.routing.Queues.{Bus, stepped, left}
use Rattle.atspi_match.specs.routing.Steps.{speaks}
use Rattle.atspi_bus_steps.specs.InnerBus.{inner_of, state_of}
use Rattle.atspi_bus_steps.specs.Sayable.{MaySay}
use Rattle.atspi_bus_steps.proofs.InPlace.{none_found}
use Rattle.atspi_bus_steps.proofs.Settling.{settled_none}
use Rattle.atspi_bus.proofs.Replying.{sound-same}
use Rattle.atspi_bus.proofs.Heard.{others}
use Rattle.atspi_bus.proofs.Leavings.{say-farewell, left-in_place, ready-out, joined-back, nobody-left, sound-left}
use Rattle.atspi_bus.proofs.leaving.leave_in_place.Goals as goal

pub say_each-requires-clause-ready : goal.say_each-requires-clause-ready
say_each-requires-clause-ready c =
    ready-out (state_of c.args.inner.now) c.replace-joined.new.dest.items c.args.conn (ap (λ v. v.items) c.replace-joined.ensures.after ∙ c.in_ok-stay.ensures ∙ ap (others c.args.conn) c.deref.ensures.value) c.requires.sound.ready

pub say_each-requires-clause-sayable : goal.say_each-requires-clause-sayable
say_each-requires-clause-sayable c =
    subst (All MaySay) (sym (ap (map envelope_of) c.from-rest.ensures.0 ∙ c.in_ok-told.ensures)) (say-farewell (inner_of c.args.inner.now) c.args.conn c.requires.sound)

pub returns-in-Ok-true-clause-ok : goal.returns-in-Ok-true-clause-ok
returns-in-Ok-true-clause-ok c =
    let b = inner_of c.args.inner.now in
    let s = b.state in
    let after = inner_of c.say_each.new.inner in
    let nobody = none_found _ _ c.first_due.result (sym c.is_some.ensures ∙ c.if-is_some.false) c.first_due.ensures in
    let said = (rw c.in-Ok-true.field-0-test at c.in-Ok-true.ensures.ok)
    ∙ ap (λ (j : List ℕ). stepped b (speaks (record s { joined = j }) (map envelope_of c.from-rest.result.items))) (ap (λ v. v.items) c.replace-joined.ensures.after ∙ c.in_ok-stay.ensures ∙ ap (others c.args.conn) c.deref.ensures.value) in
    let gone = left-in_place b after c.args.conn (map envelope_of c.from-rest.result.items) c.requires.exclusive (ap (map envelope_of) c.from-rest.ensures.0 ∙ c.in_ok-told.ensures) said in
    c.forget.ensures ∙ gone
    ∙ sym (settled_none (length s.joined) (left b c.args.conn) (ap (λ (x : Bus). x.waiting.due) (sym gone) ∙ nobody-left after c.args.conn (c.say_each.ensures.due ∙ nobody)))

pub returns-in-Ok-true-clause-sound : goal.returns-in-Ok-true-clause-sound
returns-in-Ok-true-clause-sound c =
    let b = inner_of c.args.inner.now in
    let s = b.state in
    let after = inner_of c.say_each.new.inner in
    let said = (rw c.in-Ok-true.field-0-test at c.in-Ok-true.ensures.ok)
    ∙ ap (λ (j : List ℕ). stepped b (speaks (record s { joined = j }) (map envelope_of c.from-rest.result.items))) (ap (λ v. v.items) c.replace-joined.ensures.after ∙ c.in_ok-stay.ensures ∙ ap (others c.args.conn) c.deref.ensures.value) in
    let gone = left-in_place b after c.args.conn (map envelope_of c.from-rest.result.items) c.requires.exclusive (ap (map envelope_of) c.from-rest.ensures.0 ∙ c.in_ok-told.ensures) said in
    sound-left b _ c.args.conn c.requires.sound (c.forget.ensures ∙ gone)
    (subst (λ (x : Bus). x.state.next ≤ 4294967296) (sym c.forget.ensures) c.say_each.ensures.ready.last)

pub returns-in-Ok-false-clause-ok : goal.returns-in-Ok-false-clause-ok
returns-in-Ok-false-clause-ok c =
    joined-back (inner_of c.args.inner.now) (inner_of c.say_each.new.inner) c.replace-joined.new.dest.items c.replace-joined.result.items (rw c.in-Ok-false.field-0-test at c.in-Ok-false.ensures.ok)
    (ap (λ v. v.items) c.replace-joined.ensures.value)

pub returns-in-Ok-false-clause-sound : goal.returns-in-Ok-false-clause-sound
returns-in-Ok-false-clause-sound c = sound-same (inner_of c.args.inner.now) _ (returns-in-Ok-false-clause-ok c) c.requires.sound

pub returns-in-Err-clause-err : goal.returns-in-Err-clause-err
returns-in-Err-clause-err c =
    joined-back (inner_of c.args.inner.now) (inner_of c.say_each.new.inner) c.replace-joined.new.dest.items c.replace-joined.result.items c.in-Err.ensures.err
    (ap (λ v. v.items) c.replace-joined.ensures.value)

pub returns-in-Err-clause-sound : goal.returns-in-Err-clause-sound
returns-in-Err-clause-sound c = sound-same (inner_of c.args.inner.now) _ (returns-in-Err-clause-err c) c.requires.sound
