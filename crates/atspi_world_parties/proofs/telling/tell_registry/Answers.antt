use Rattle.atspi_message.specs.Envelope.{envelope_of}
use Rattle.atspi_world_parties.proofs.RegistryTold.{registry_more, registry_none, sent_told}
use Rattle.atspi_world_parties.proofs.Queued.{none_given}
use Rattle.atspi_world_parties.proofs.telling.tell_registry.Goals as goal

pub loop-message-preserved : goal.loop-message-preserved
loop-message-preserved c = λ after q new told.
    c.loop-message.invariant after q new
    (registry_more c.loop-message.registry c.next.new.self after (envelope_of c.in-Some.message) c.loop-message.post c.send.new.post q c.loop-message.trace.items c.send.new.trace.items new c.in-Some.ensures.front c.in-Some.ensures.empty
    c.in_ok-send.ensures.up (sent_told c.loop-message.trace.items c.send.new.trace.items c.in-Some.message c.in_ok-send.ensures.told) c.in_ok-send.ensures.message told)

pub returns : goal.returns
returns c = record {
  told = c.loop-message.invariant c.next.new.self c.loop-message.post c.loop-message.trace.items
      (registry_none c.loop-message.registry c.next.new.self c.loop-message.post c.loop-message.trace.items (none_given c.next.result _ _ c.in_default.not-Some c.next.ensures.front)
      (none_given c.next.result _ _ c.in_default.not-Some c.next.ensures.empty));
}
