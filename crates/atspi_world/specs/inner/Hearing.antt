-- What the registry takes at its start: all that comes down its link.
use Rattle.std.specs.Prelude.{◌≡◌, ℕ, List, Some}
use Rattle.std.specs.List.{fold}
use Rattle.atspi_message.specs.Envelope.{Envelope}
use Rattle.atspi_protocol.specs.registering.Steps.{Registry, takes}
use Rattle.atspi_match.specs.routing.Queues.{Bus}
use Rattle.atspi_world_links.specs.declared.post.Post.{Post}
use Rattle.atspi_trace.specs.World.{End, World}
use Rattle.atspi_trace.specs.Ends.{end_at}
use Rattle.atspi_world_moves.specs.Carried.{IsCarried}
use Rattle.atspi_world_moves.specs.inner.Downs.{messages_of}
use Rattle.atspi_world_moves.specs.Linked.{IsLinked}

-- it took these messages
abbrev pub takes_all : Registry → List Envelope → Registry
takes_all r ms = fold takes r ms

-- IT TOOK ALL THAT WAS ON ITS DOWN LINK: bus, connections and what lies at the ends are those of a world behind that
pub record HeardAll (ms : List Envelope) (bus : Bus) (posts : List Post) (given : List (List ℕ)) (r t : Registry)
    : Type 0 where
  pub now : World
  pub carried : IsCarried now bus posts
  pub linked : IsLinked now given
  pub took : t ≡ takes_all r ms

abbrev pub HearsAll : Bus → Bus → List Post → List (List ℕ) → List (List ℕ) → ℕ → Registry → Registry → Type 0
HearsAll before after posts given given' conn r t =
    (w : World) (e : End) → IsCarried w before posts → IsLinked w given → end_at w.ends conn ≡ Some e
    → HeardAll (messages_of e.down) after posts given' r t
