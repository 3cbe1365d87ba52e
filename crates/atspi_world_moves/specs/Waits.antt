-- What waits first, by the connections, the bytes that wait for them, and what their ends were given.
use Rattle.std.specs.Prelude.{ℕ, suc, nat_lt, ◌||◌, Bool, false, List, ◌∷◌, length, Option, None, Some, slice_get, []}
use Rattle.std.specs.Prelude.{if◌then◌else◌}
use Rattle.atspi_tree_model.specs.Forest.{first_of}
use Rattle.atspi_match.specs.routing.Queues.{Bus, or_nothing}
use Rattle.atspi_world_links.specs.declared.post.Post.{Post}
use Rattle.atspi_world_links.specs.declared.post.Standing.{Standing}
use Rattle.atspi_world_links.specs.declared.post.Standing.TheVariants.{Here, Stopped, Away}
use Rattle.atspi_world_moves.specs.declared.waiting.Turn.{Turn}
use Rattle.atspi_world_moves.specs.declared.waiting.Turn.TheVariants.{Route, Part, Get}
use Rattle.atspi_world_moves.specs.Filled.{waits_for}

-- on an up link: a message, or that the end stopped
abbrev pub up_turn_by : ℕ → Standing → List ℕ → Option Turn
up_turn_by conn Here [] = None
up_turn_by conn Here (b ∷ bytes) = Some (Route conn)
up_turn_by conn Stopped bytes = Some (Part conn)
up_turn_by conn Away bytes = None

abbrev pub up_turn : ℕ → Post → Option Turn
up_turn conn p = up_turn_by conn p.standing p.up

-- on a down link, of an end that is there: bytes that wait in the bus, or were given of a message that is not whole
abbrev pub waits_below : Bus → List (List ℕ) → ℕ → Bool
waits_below b given conn = nat_lt 0 (length (waits_for b conn)) || nat_lt 0 (length (or_nothing (slice_get given conn)))

abbrev pub waits_at : Bus → List (List ℕ) → ℕ → Standing → Bool
waits_at b given conn Here = waits_below b given conn
waits_at b given conn standing = false

-- the first up link on which something waits, in order of joining, and the first down link
abbrev pub first_up : ℕ → List Post → Option Turn
first_up conn [] = None
first_up conn (p ∷ ps) = first_of (up_turn conn p) (first_up (suc conn) ps)

abbrev pub first_down : Bus → List (List ℕ) → ℕ → List Post → Option Turn
first_down b given conn [] = None
first_down b given conn (p ∷ ps) = if waits_at b given conn p.standing then Some (Get conn)
    else first_down b given (suc conn) ps
