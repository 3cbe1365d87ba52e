use Rattle.std.proofs.Common.{sym, ap, subst, map}
use Rattle.std.specs.List.{All}
use Rattle.atspi_message.specs.Envelope.{envelope_of}
use Rattle.atspi_bus_steps.specs.InnerBus.{inner_of}
use Rattle.atspi_bus_steps.specs.Sayable.{MaySay}
use Rattle.atspi_bus_steps.proofs.Said.{saying-start, saying-first, saying-next}
use Rattle.atspi_bus_steps.proofs.inner.Inner.say.Goals as goal

pub loop-message-init : goal.loop-message-init
loop-message-init c =
    saying-start (inner_of c.args.self.now) (map envelope_of c.from-rest.result.items) c.requires.ready (subst (All MaySay) (sym (ap (map envelope_of) c.from-rest.ensures.0)) c.requires.sayable)

pub say_one-requires-clause-sayable : goal.say_one-requires-clause-sayable
say_one-requires-clause-sayable c =
    saying-first (inner_of c.args.self.now) (inner_of c.loop-message.self) (map envelope_of c.from-rest.result.items) (map envelope_of c.loop-message.rest.items) (envelope_of c.in-Some.message)
    (map envelope_of c.pop_front.new.self.items) c.loop-message.invariant (ap (map envelope_of) c.in-Some.ensures.items)

pub loop-message-preserved : goal.loop-message-preserved
loop-message-preserved c =
    saying-next (inner_of c.args.self.now) (inner_of c.loop-message.self) (inner_of c.say_one.new.self) (map envelope_of c.from-rest.result.items) (map envelope_of c.loop-message.rest.items)
    (envelope_of c.in-Some.message) (map envelope_of c.pop_front.new.self.items) c.loop-message.invariant (ap (map envelope_of) c.in-Some.ensures.items)
    c.in_ok-say_one.ensures.ok c.in_ok-say_one.ensures.ready
