-- What the bus's taking of one message does.
use Rattle.std.specs.Prelude.{◌≡◌, ◌<◌, ℕ, List, [], ◌∷◌, ◌++◌, length, Option, Some}
use Rattle.atspi_message.specs.Envelope.{Envelope}
use Rattle.atspi_message.specs.Bytes.{IsMessage, written}
use Rattle.atspi_match.specs.declared.condition.Condition.{Condition}
use Rattle.atspi_script_lines.specs.declared.line.Party.{Party}
use Rattle.atspi_script_lines.specs.declared.line.Party.TheVariants.{Bus as The_bus}
use Rattle.atspi_tree_model.specs.Forest.{first_of}
use Rattle.atspi_match.specs.routing.BusState.{unique_of}
use Rattle.atspi_match.specs.routing.Steps.{bus_takes}
use Rattle.atspi_match.specs.routing.Queues.{Bus, stepped}
use Rattle.atspi_bus_steps.specs.Spoken.{IsRuleTaken}
use Rattle.atspi_trace_events.specs.declared.event.Event.{Event}
use Rattle.atspi_trace_events.specs.declared.event.Event.TheVariants.{Got}
use Rattle.atspi_world_links.specs.declared.post.Post.{Post}

-- the bus did its step with a message, apart from the closings, and that it took it is told
pub record IsTaken (m : Envelope) (before after : Bus) (conn : ℕ) (sender : Party) (old new : List Event) : Type 0 where
  pub rule : Option (List Condition)
  pub reads : IsRuleTaken before.state conn m rule
  pub bus : after ≡ stepped before (bus_takes before.state conn m rule)
  pub told : new ≡ old ++ Got The_bus sender m.serial ∷ []

-- of bytes that begin with a message: it was taken, and is so long
pub record IsFront (m : Envelope) (before after : Bus) (conn : ℕ) (sender : Party) (old new : List Event)
    (len : Option ℕ) : Type 0 where
  pub long : len ≡ Some (length (written m))
  pub taken : IsTaken m before after conn sender old new

abbrev pub TakesFront : List ℕ → Bus → Bus → ℕ → Party → List Event → List Event → Option ℕ → Type 0
TakesFront bytes before after conn sender old new len =
    (m : Envelope) (rest : List ℕ) → IsMessage m (written m) → bytes ≡ written m ++ rest
    → IsFront m before after conn sender old new len

-- a connection whose first message was taken, with the name that the bus has for it
abbrev pub taken_off : Bus → ℕ → List ℕ → Post → Post
taken_off b conn rest p = record p { name = first_of p.name (unique_of b.state.owners conn); up = rest; begun = 0 }

pub record IsRouted (m : Envelope) (before after : Bus) (conn : ℕ) (p q : Post) (rest : List ℕ) (old new : List Event)
    : Type 0 where
  pub taken : IsTaken m before after conn p.who old new
  pub post : q ≡ taken_off after conn rest p

abbrev pub RoutesFront : Bus → Bus → ℕ → Post → Post → List Event → List Event → Type 0
RoutesFront before after conn p q old new =
    (m : Envelope) (rest : List ℕ) → IsMessage m (written m) → p.up ≡ written m ++ rest
    → IsRouted m before after conn p q rest old new

-- that the bus took a message is told, and for its own messages that this brings no serials are left
pub record IsSpentTaking (m : Envelope) (before : Bus) (conn : ℕ) (sender : Party) (old new : List Event) : Type 0 where
  pub rule : Option (List Condition)
  pub reads : IsRuleTaken before.state conn m rule
  pub spent : 4294967296 < (bus_takes before.state conn m rule).state.next
  pub told : new ≡ old ++ Got The_bus sender m.serial ∷ []

abbrev pub SpendsAtFront : List ℕ → Bus → ℕ → Party → List Event → List Event → Type 0
SpendsAtFront bytes before conn sender old new = (m : Envelope) (rest : List ℕ) → IsMessage m (written m)
    → bytes ≡ written m ++ rest → IsSpentTaking m before conn sender old new
