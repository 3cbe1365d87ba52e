-- The down links of a world: what waits in the bus, what lies at the ends, and that both are letters' bytes.
use Rattle.std.specs.Prelude.{◌≡◌, ℕ, nat_le, true, false, List, [], ◌∷◌, map, take, slice_get, slice_set, Some}
use Rattle.atspi_script_lines.specs.declared.line.Party.TheVariants.{Registry}
use Rattle.atspi_message.specs.Envelope.{Envelope}
use Rattle.atspi_message.specs.Bytes.{written}
use Rattle.atspi_match.specs.routing.Queues.{Bus}
use Rattle.atspi_world_links.specs.declared.post.Post.{Post}
use Rattle.atspi_trace.specs.World.{here, Letter, End, World}
use Rattle.atspi_trace.specs.Ends.{end_at}
use Rattle.atspi_trace.specs.Causes.{without_bytes, missing}
use Rattle.atspi_trace.specs.Work.{moved_down}
use Rattle.atspi_bus_laws.specs.handed.Handing.{HandsLetters}
use Rattle.atspi_bus_laws.specs.handed.Naming.{AreNamed}
use Rattle.atspi_world_moves.specs.Carried.{IsCarried}
use Rattle.atspi_world_moves.specs.Downs.{bytes_down, Wait}

-- what lies at an end: the front of the bytes of its down link, as far as they were moved
abbrev pub given_of : End → List ℕ
given_of e = take e.down_moved (bytes_down e.down)

-- where there are ends, the first is the registry, and it is there
abbrev pub IsThere : List End → Type 0
IsThere [] = Unit {0}
IsThere (e ∷ ends) = (e.who ≡ Registry) × (e.standing ≡ here)

-- THE TIE OF DOWN LINKS: at each end lies the front of its down link, the rest waits in the bus, each letter's bytes
-- spell its message, and it bears its sender's name; and the registry is there
pub record IsLinked (w : World) (given : List (List ℕ)) : Type 0 where
  pub given_are : given ≡ map given_of w.ends
  pub wait : Wait w.bus.waiting.queues w.ends
  pub hands : HandsLetters (record { bus = w.bus; ends = w.ends })
  pub named : AreNamed w.bus.state.owners w.ends
  pub there : IsThere w.ends

-- the first message of a down link lies at its end, whole and alone, and none of it waits in the bus any more; what
-- lies at the other ends is as it was
pub record IsWhole (before after : Bus) (given given' : List (List ℕ)) (conn : ℕ) (m : Envelope) (begun : ℕ)
    : Type 0 where
  pub lies : slice_get given' conn ≡ Some (written m)
  pub others : given' ≡ slice_set given conn (written m)
  pub bus : after ≡ without_bytes conn (missing m begun) before

-- no byte came down
pub record IsStill (before after : Bus) (given given' : List (List ℕ)) (count : ℕ) : Type 0 where
  pub none : count ≡ 0
  pub bus : after ≡ before
  pub lies : given' ≡ given

-- what the first message of a down link lacked came down, and no more
pub record CameWhole (before after : Bus) (given given' : List (List ℕ)) (conn count : ℕ) (m : Envelope) (begun : ℕ)
    : Type 0 where
  pub many : count ≡ missing m begun
  pub whole : IsWhole before after given given' conn m begun

-- so many bytes came down, and they complete no message
pub record CameInPart (w : World) (bus : Bus) (posts : List Post) (given' : List (List ℕ)) (conn most count : ℕ)
    : Type 0 where
  pub many : count ≡ most
  pub tied : IsCarried (moved_down w conn most) bus posts
  pub linked : IsLinked (moved_down w conn most) given'

-- WHAT COMES DOWN TO AN END of at most so many bytes: nothing where nothing waits for it; the first message of its down
-- link where those are enough for what it lacks; and else all those
pub record ComesDown (w : World) (before after : Bus) (posts : List Post) (given given' : List (List ℕ))
    (conn most count : ℕ) (e : End) : Type 0 where
  pub none : e.down ≡ [] → IsStill before after given given' count
  pub whole : (letter : Letter) (rest : List Letter) → e.down ≡ letter ∷ rest
      → nat_le (missing letter.said.message e.down_moved) most ≡ true
      → CameWhole before after given given' conn count letter.said.message e.down_moved
  pub part : (letter : Letter) (rest : List Letter) → e.down ≡ letter ∷ rest
      → nat_le (missing letter.said.message e.down_moved) most ≡ false → CameInPart w after posts given' conn most count

-- so it is of each world that bus and connections are, with what lies at its ends
abbrev pub BringsDown : Bus → Bus → List Post → List (List ℕ) → List (List ℕ) → ℕ → ℕ → ℕ → Type 0
BringsDown before after posts given given' conn most count =
    (w : World) (e : End) → IsCarried w before posts → IsLinked w given → end_at w.ends conn ≡ Some e
    → ComesDown w before after posts given given' conn most count e
