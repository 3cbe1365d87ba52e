use Rattle.std.proofs.Common.{List, ℕ, map, ap, ◌∙◌}
use Rattle.atspi_message_in_place.specs.View.{envelope_at}
use Rattle.atspi_match.specs.routing.Steps.{calls_after_all}
use Rattle.atspi_bus_steps.specs.inner.Handing.{queued_each}
use Rattle.atspi_bus_steps.specs.InnerBus.{call_of}
use Rattle.atspi_bus_steps.proofs.passing.hand_to_each.Goals as goal

pub returns-clause-ok : goal.returns-clause-ok
returns-clause-ok c =
    let e = envelope_at c.args.m.now in
    let to = c.args.receivers.now in
    let queues = c.args.queues.now in
    let h = rw c.if-not-went.false at c.in_ok-went.ensures.ok in (
      c.note_all.ensures ∙ ap (λ k. calls_after_all (map call_of k) c.args.conn e to) c.reserve.ensures.items,
      h.1 ∙ ap (λ (bytes : List ℕ). record queues { waiting = queued_each queues.quota queues.waiting bytes to }) (c.as_slice.ensures ∙ (rw c.in-Bytes.is at c.in_ok-bytes.ensures.spelled).0),
    )
