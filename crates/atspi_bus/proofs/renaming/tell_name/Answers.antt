use Rattle.std.proofs.Common.{map, sym, ap, ◌∙◌, subst}
use Rattle.std.specs.List.{All}
use Rattle.atspi_message.specs.Envelope.{envelope_of}
use Rattle.atspi_message_in_place.specs.View.{envelope_at}
use Rattle.atspi_match.specs.routing.Queues.{stepped}
use Rattle.atspi_match.specs.routing.Steps.{speaks}
use Rattle.atspi_bus_steps.specs.InnerBus.{inner_of, state_of}
use Rattle.atspi_bus_steps.specs.Sayable.{MaySay}
use Rattle.atspi_bus_steps.proofs.Greetings.{say-greeting}
use Rattle.atspi_bus_steps.proofs.InPlace.{told-more}
use Rattle.atspi_bus.proofs.renaming.tell_name.Goals as goal

pub say_each-requires-clause-sayable : goal.say_each-requires-clause-sayable
say_each-requires-clause-sayable c =
    subst (All MaySay) (sym (ap (map envelope_of) c.from-rest.ensures.0 ∙ c.in_ok-told.ensures)) (say-greeting c.args.name.now (envelope_at c.args.m.now) c.requires.meets.numbered)

pub returns-clause-ok : goal.returns-clause-ok
returns-clause-ok c =
    told-more _ _ _ c.say_each.result
    (λ is. is ∙ ap (λ told. stepped (inner_of c.args.inner.now) (speaks (state_of c.args.inner.now) told)) (ap (map envelope_of) c.from-rest.ensures.0 ∙ c.in_ok-told.ensures))
    c.say_each.ensures.ok
