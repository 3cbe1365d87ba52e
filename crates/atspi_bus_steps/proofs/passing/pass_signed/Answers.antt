use Rattle.std.proofs.Common.{map, sym, subst}
use Rattle.atspi_message.specs.Envelope.{Envelope}
use Rattle.atspi_bus_steps.specs.inner.Handing.{WentToAll}
use Rattle.atspi_bus_steps.specs.InnerBus.{call_of, parts}
use Rattle.atspi_bus_steps.proofs.InPlace.{told-as}
use Rattle.atspi_bus_steps.proofs.passing.pass_signed.Goals as goal

pub returns-in-Some-clause-ok : goal.returns-in-Some-clause-ok
returns-in-Some-clause-ok c =
    let s = parts c.args.joined.now c.args.names.now c.args.rules.now in
    told-as _ _ _ _ c.pass_to_all.result
    (λ w. record {
      name = c.in-Some.name.now;
      named = sym c.in-Some.ensures;
      went = subst (λ (x : Envelope). WentToAll s c.args.conn x (map call_of c.args.calls.now.items) (map call_of c.pass_to_all.new.calls.items) c.args.queues.now c.pass_to_all.new.queues) c.with_sender-signed.ensures w;
    })
    (λ same. same)
    c.pass_to_all.ensures.ok
