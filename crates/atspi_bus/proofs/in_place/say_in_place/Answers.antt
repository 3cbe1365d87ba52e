use Rattle.std.proofs.Common.{◌∷◌, [], map, ap, ◌∙◌}
use Rattle.std.proofs.lemmas.List.{map-append}
use Rattle.atspi_message.specs.Envelope.{envelope_of}
use Rattle.atspi_bus_steps.specs.InnerBus.{inner_of}
use Rattle.atspi_bus.proofs.Saying.{said-of}
use Rattle.atspi_bus.proofs.in_place.say_in_place.Goals as goal

pub returns-in-Some-clause-ok : goal.returns-in-Some-clause-ok
returns-in-Some-clause-ok c =
    let message = record c.args.message { serial = c.args.inner.now.next } in
    let own = c.hand_each.new.inner.own.items in
    let handed = rw c.in-Some.is at c.in_ok-said.ensures.ok in
    said-of (inner_of c.args.inner.now) (inner_of c.hand_each.new.inner) (map envelope_of c.push_back_reserved.new.self.items) (envelope_of c.args.message)
    c.in-Some.said.bytes c.in-Some.said.receivers.items handed (ap (map envelope_of) c.push_back_reserved.ensures.items ∙ map-append envelope_of own (message ∷ []))
