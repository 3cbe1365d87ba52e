use Rattle.std.proofs.Common.{Err, refl, ap, inl}
use Rattle.atspi_message_in_place.specs.View.{envelope_at}
use Rattle.atspi_bus_steps.specs.declared.fault.BusFault.{BusFault}
use Rattle.atspi_live_bus.proofs.Conversing.{shorter, told_one}
use Rattle.atspi_live_bus.proofs.link.Link.tell.Goals as goal

pub returns-in-Ok-clause-ok : goal.returns-in-Ok-clause-ok
returns-in-Ok-clause-ok c =
    let left = rw c.in-Message.is at c.next.follows.holds-at-none in
    let m = left.message in (
      envelope_at c.in-Message.message,
      c.in-Ok.ensures.ok,
      λ took handed t g v. told_one took handed c.args.self.now _ t g (envelope_at c.in-Message.message) m.0 m.1 m.2 refl refl v,
      shorter (envelope_at c.in-Message.message) m.0 c.args.self.now.feeder _ m.1 m.2,
    )

pub returns-in-Err-clause-spent : goal.returns-in-Err-clause-spent
returns-in-Err-clause-spent c e =
    let s = c.in-Err.ensures.spent (ap (λ (x : BusFault). Err x) (c.stop_of.ensures.spent e)) in
    inl (c.args.self.now.conn, envelope_at c.in-Message.message, s.0, s.1, s.2)
