use Rattle.std.proofs.Common.{length, map, ap, subst, arith}
use Rattle.std.specs.List.{All}
use Rattle.std.proofs.lemmas.List.Elements.{All-head, All-tail}
use Rattle.atspi_message.specs.Envelope.{envelope_of}
use Rattle.atspi_bus_steps.specs.InnerBus.{inner_of}
use Rattle.atspi_bus_steps.specs.Sayable.{MaySay}
use Rattle.atspi_bus.proofs.Saying.{said-again, said-each}
use Rattle.atspi_bus.proofs.in_place.+say_each.Goals as goal

pub say_in_place-requires-clause-sayable : goal.say_in_place-requires-clause-sayable
say_in_place-requires-clause-sayable t c =
    All-head MaySay (envelope_of c.in-Some.message) (map envelope_of c.pop_front.new.self.items) (subst (All MaySay) (ap (map envelope_of) c.in-Some.ensures.items) c.requires.sayable)

pub say_each-requires : goal.say_each-requires
say_each-requires t c =
    let less = ap length c.in-Some.ensures.items in
    let sayable = subst (All MaySay) (ap (map envelope_of) c.in-Some.ensures.items) c.requires.sayable in
    (omega (arith, less, c.decreases), (c.say_in_place.ensures.ready, All-tail MaySay (envelope_of c.in-Some.message) (map envelope_of c.pop_front.new.self.items) sayable))

pub returns-in-Ok-true-clause-ok : goal.returns-in-Ok-true-clause-ok
returns-in-Ok-true-clause-ok t c =
    let said = rw c.in-Some-2.is at c.in_ok-said.ensures.ok in
    let more = rw c.in-Ok-true.field-0-test at c.in-Ok-true.ensures.ok in
    said-each (inner_of c.args.inner.now) (inner_of c.say_in_place.new.inner) (inner_of c.say_each.new.inner) (map envelope_of c.args.told.now.items) (map envelope_of c.pop_front.new.self.items)
    (envelope_of c.in-Some.message) c.in-Some-2.said.bytes c.in-Some-2.said.receivers.items (ap (map envelope_of) c.in-Some.ensures.items) said more

pub unsay-requires : goal.unsay-requires
unsay-requires t c =
    let said = rw c.in-Some-2.is at c.in_ok-said.ensures.ok in
    let same = rw c.in-Ok-false.field-0-test at c.in-Ok-false.ensures.ok in (
      inner_of c.args.inner.now,
      envelope_of c.in-Some.message,
      said-again (inner_of c.args.inner.now) (inner_of c.say_in_place.new.inner) (inner_of c.say_each.new.inner) (envelope_of c.in-Some.message) c.in-Some-2.said.bytes c.in-Some-2.said.receivers.items
          same said,
    )

pub unsay-requires-in-Err : goal.unsay-requires-in-Err
unsay-requires-in-Err t c =
    let said = rw c.in-Some-2.is at c.in_ok-said.ensures.ok in (
      inner_of c.args.inner.now,
      envelope_of c.in-Some.message,
      said-again (inner_of c.args.inner.now) (inner_of c.say_in_place.new.inner) (inner_of c.say_each.new.inner) (envelope_of c.in-Some.message) c.in-Some-2.said.bytes c.in-Some-2.said.receivers.items
          c.in-Err.ensures.err said,
    )
