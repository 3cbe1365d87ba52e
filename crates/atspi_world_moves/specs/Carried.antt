-- A world of the definitions that the bus and the connections are.
use Rattle.std.specs.Prelude.{◌≡◌, ◌<◌, ◌≤◌, ℕ, List, [], ◌∷◌, ◌++◌, length, map}
use Rattle.std.specs.List.{AllByRecursion}
use Rattle.atspi_message.specs.Envelope.{Envelope}
use Rattle.atspi_message.specs.Bytes.{IsMessage, written}
use Rattle.atspi_match.specs.routing.Queues.{Bus}
use Rattle.atspi_bus_steps.specs.Spoken.{IsRuleNamed}
use Rattle.atspi_trace_events.specs.declared.event.Event.{Event}
use Rattle.atspi_world_links.specs.declared.post.Post.{Post}
use Rattle.atspi_world_links.specs.declared.post.Standing as stands
use Rattle.atspi_world_links.specs.declared.post.Standing.TheVariants.{Here, Stopped, Away}
use Rattle.atspi_trace.specs.Entry.{entries_of}
use Rattle.atspi_trace.specs.Rules.{rule_in}
use Rattle.atspi_trace.specs.World.{Standing, here, stopped, away, Said, End, World}
use Rattle.atspi_trace.specs.Causes.{Done}
use Rattle.atspi_world_moves.specs.Downs.{Wait}

-- an end's connection: who it is and how it stands, its name, and the bytes of the messages on its up link with their
-- mark
abbrev pub standing_at : Standing → stands.Standing
standing_at here = Here
standing_at stopped = Stopped
standing_at away = Away

abbrev pub bytes_up : List Said → List ℕ
bytes_up [] = []
bytes_up (said ∷ saids) = written said.message ++ bytes_up saids

abbrev pub post_of : End → Post
post_of e =
    record { who = e.who; standing = standing_at e.standing; name = e.unique; up = bytes_up e.up; begun = e.up_moved }

-- a message that an end of a world sends: bytes spell it, and the rule that it asks the bus for, if it does, is the one
-- of the table
pub record IsSendable (m : Envelope) : Type 0 where
  pub is : IsMessage m (written m)
  pub reads : IsRuleNamed m (rule_in m)

abbrev pub AreSendable : End → Type 0
AreSendable e = AllByRecursion (λ (said : Said). IsSendable said.message) e.up

-- the mark of an up link stands within its first message
abbrev pub IsWithin : ℕ → List Said → Type 0
IsWithin moved [] = moved ≡ 0
IsWithin moved (said ∷ saids) = moved < length (written said.message)

abbrev pub HasMark : End → Type 0
HasMark e = IsWithin e.up_moved e.up

-- THE TIE OF WHAT LIES BETWEEN THE ENDS: the bus is that of the world and has told all, the connections are those of
-- its ends, and what waits for each end is its down link
pub record IsCarried (w : World) (bus : Bus) (posts : List Post) : Type 0 where
  pub bus_is : bus ≡ w.bus
  pub own_told : w.bus.own ≡ []
  pub closings_told : w.bus.closings ≡ []
  pub posts_are : posts ≡ map post_of w.ends
  pub few : length posts ≤ 4294967296
  pub sendable : AllByRecursion AreSendable w.ends
  pub marked : AllByRecursion HasMark w.ends
  pub waits : Wait w.bus.waiting.queues w.ends

-- a cause was done: the bus and the connections are those of the world after it, and just its entries were written
pub record IsDone (d : Done) (bus : Bus) (posts : List Post) (old new : List Event) : Type 0 where
  pub tied : IsCarried d.world bus posts
  pub wrote : entries_of new ≡ entries_of old ++ d.entries
