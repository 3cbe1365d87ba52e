use Rattle.std.proofs.Common.{List, length}
use Rattle.atspi_trace_events.specs.declared.event.Event.{Event}
use Rattle.atspi_world_links.specs.declared.post.Post.{Post}
use Rattle.atspi_protocol.specs.registering.Steps.{Registry}
use Rattle.atspi_world_parties.specs.Doing.{IsRegistryTold}
use Rattle.atspi_world_parties.proofs.telling.tell_registry.Given as goal

-- what is told of the rest completes what was told so far
abbrev pub invariant-loop-message : goal.invariant-loop-message
invariant-loop-message l = (after : Registry) (q : Post) (new : List Event) → IsRegistryTold l.registry after l.post q l.trace.items new → IsRegistryTold l.initial.registry after l.initial.post q l.initial.trace.items new

abbrev pub decreases-loop-message : goal.decreases-loop-message
decreases-loop-message l = length l.registry.out
