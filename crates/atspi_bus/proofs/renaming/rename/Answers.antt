use Rattle.std.proofs.Common.{List, map, sym, ap, ◌∙◌, subst}
use Rattle.std.specs.List.{All}
use Rattle.atspi_message.specs.Envelope.{Envelope, envelope_of}
use Rattle.atspi_names.specs.Owners.{Owners}
use Rattle.atspi_match.specs.routing.Queues.{stepped}
use Rattle.atspi_match.specs.routing.Steps.{speaks}
use Rattle.atspi_bus_steps.specs.InnerBus.{inner_of, state_of}
use Rattle.atspi_bus_steps.specs.Sayable.{MaySay}
use Rattle.atspi_bus.proofs.Replying.{renamed-back, renamed-ready}
use Rattle.atspi_bus.proofs.renaming.rename.Goals as goal

pub say_each-requires-clause-ready : goal.say_each-requires-clause-ready
say_each-requires-clause-ready c = renamed-ready (state_of c.args.inner.now) _ c.requires.ready

pub say_each-requires-clause-sayable : goal.say_each-requires-clause-sayable
say_each-requires-clause-sayable c = subst (All MaySay) (sym (ap (map envelope_of) c.from-rest.ensures.0)) c.requires.sayable

pub returns-in-Ok-true-clause-ok : goal.returns-in-Ok-true-clause-ok
returns-in-Ok-true-clause-ok c =
    let b = inner_of c.args.inner.now in
    let said = rw c.in-Ok-true.field-0-test at c.in-Ok-true.ensures.ok in
    said ∙ ap (λ (o : Owners). stepped b (speaks (record b.state { owners = o }) (map envelope_of c.from-rest.result.items))) c.replace-before.ensures.after
    ∙ ap (λ (l : List Envelope). stepped b (speaks (record b.state { owners = c.args.names }) l)) (ap (map envelope_of) c.from-rest.ensures.0)

pub returns-in-Ok-false-clause-ok : goal.returns-in-Ok-false-clause-ok
returns-in-Ok-false-clause-ok c =
    renamed-back (inner_of c.args.inner.now) (inner_of c.say_each.new.inner) c.replace-before.new.dest c.replace-before.result (rw c.in-Ok-false.field-0-test at c.in-Ok-false.ensures.ok)
    c.replace-before.ensures.value

pub returns-in-Ok-false-clause-ready : goal.returns-in-Ok-false-clause-ready
returns-in-Ok-false-clause-ready c = renamed-ready (state_of c.say_each.new.inner) c.replace-before.result c.say_each.ensures.ready

pub returns-in-Err-clause-err : goal.returns-in-Err-clause-err
returns-in-Err-clause-err c =
    renamed-back (inner_of c.args.inner.now) (inner_of c.say_each.new.inner) c.replace-before.new.dest c.replace-before.result c.in-Err.ensures.err c.replace-before.ensures.value

pub returns-in-Err-clause-ready : goal.returns-in-Err-clause-ready
returns-in-Err-clause-ready c = renamed-ready (state_of c.say_each.new.inner) c.replace-before.result c.say_each.ensures.ready
