use Rattle.atspi_bus_steps.specs.InnerBus.{inner_of}
use Rattle.atspi_bus.proofs.Saying.{said-went, went-as}
use Rattle.atspi_bus.proofs.in_place.unsay.Goals as goal

pub take_back_each-requires-clause-went : goal.take_back_each-requires-clause-went
take_back_each-requires-clause-went c =
    let h = c.requires in
    let now = c.args.inner.now in
    let said = c.args.said.now in (
      h.0.waiting,
      went-as now.queues.quota h.0.waiting now.queues.waiting said.bytes said.receivers.items c.as_slice-bytes.result.now c.deref.result.now c.as_slice-bytes.ensures c.deref.ensures.value
          (said-went h.0 (inner_of now) h.1 said.bytes said.receivers.items h.2),
    )
