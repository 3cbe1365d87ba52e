-- Words that only the private contracts and proofs beside `Turns` use.
use Rattle.std.specs.Prelude.{◌≡◌, ◌<◌, ◌≤◌, ◌+◌, ℕ, Bool, true, false, List, ◌∷◌, ◌++◌, Option, None, []}
use Rattle.std.specs.Prelude.{Some, ⊤}
use Rattle.atspi_auth.specs.declared.stage.Stage.TheVariants.{Over}
use Rattle.atspi_message.specs.Envelope.{Envelope}
use Rattle.atspi_match.specs.routing.Queues.{empty_bus, joins, queue_of}
use Rattle.atspi_match.specs.routing.Queues as queues
use Rattle.atspi_bus.specs.declared.bus.Bus.{Bus}
use Rattle.atspi_bus.specs.View.{bus_of, given_of}
use Rattle.atspi_live_host.specs.declared.call.Call.{Call}
use Rattle.atspi_live_host.specs.declared.call.Did.{Did}
use Rattle.atspi_live_host.specs.Calls.{taken, given}
use Rattle.atspi_live_bus.specs.Asked.{Asked, Runs, messages_of, handed_to}
use Rattle.atspi_live_bus.specs.Closes.{IsLost}
use Rattle.atspi_live_bus.specs.Course.{AreHandings, AreTellings, Course}
use Rattle.atspi_live_bus.specs.Service.{AreApart, IsSaid, IsSpeech}
use Rattle.atspi_live_bus.specs.declared.link.Link.{Link}
use Rattle.atspi_live_bus.specs.declared.link.Next.{Next}
use Rattle.atspi_live_bus.specs.declared.link.Next.TheVariants as next
use Rattle.atspi_live_bus.specs.declared.stop.Stop.{Stop}
use Rattle.atspi_live_bus.specs.declared.stop.Stop.TheVariants as stops
use Rattle.atspi_live_bus.specs.Turns.{Converses}

-- the same behind a read that was answered so, or where the link is lost what was given alone
abbrev pub Remains : Bool → Did → List Envelope → List ℕ → Link → List ℕ → List ℕ → Type 0
Remains true did took handed l t g = (IsLost did t → ⊥) × Converses took handed l t g
Remains false did took handed l t g = IsLost did t × IsSpeech took handed t g

abbrev pub Each : (Link → Type 0) → List Link → Type 0
Each P [] = ⊤
Each P (l ∷ ls) = P l × Each P ls

-- an open link with its connection
abbrev pub IsSeated : List Asked → (ℕ → Option ℕ) → List Call → Link → Type 0
IsSeated asked conn cs l = (conn l.number ≡ Some l.conn)
    × Converses (messages_of l.conn asked) (handed_to l.conn asked) l (taken l.number cs) (given l.number cs)

-- A bus and its links in this course, where these are the calls of the host.
pub record Goes (b : Bus) (links : List Link) (x : Course) (cs : List Call) : Type 0 where
  pub run : Runs (empty_bus 16777216) x.asked (bus_of b)
  pub bus_is : x.bus ≡ bus_of b
  pub apart : AreApart x.conn
  pub below : (k c : ℕ) → x.conn k ≡ Some c → c < given_of b
  pub unasked : (c : ℕ) → given_of b ≤ c → (messages_of c x.asked ≡ []) × (handed_to c x.asked ≡ [])
  pub each : Each (λ l. IsSeated x.asked x.conn cs l) links
  pub said : (k : ℕ) → IsSaid x.asked (x.conn k) (taken k cs) (given k cs)

-- on other links nothing passed
abbrev pub OthersRest : ℕ → List Call → List Call → Type 0
OthersRest k cs ds = (j : ℕ) → (j ≡ k → ⊥) → (taken j ds ≡ taken j cs) × (given j ds ≡ given j cs)

-- what the calls for one link make of what is known of it
abbrev pub Carries : ℕ → Option (List Call) → Option (List Call) → (List ℕ → List ℕ → Type 0)
    → (List ℕ → List ℕ → Type 0) → Type 0
Carries k old None P Q = ⊤
Carries k None (Some ds) P Q = ⊥
Carries k (Some cs) (Some ds) P Q = OthersRest k cs ds × (P (taken k cs) (given k cs) → Q (taken k ds) (given k ds))

-- what was asked of a bus for one connection alone
abbrev pub IsOfOne : ℕ → List Asked → Type 0
IsOfOne c asked = (d : ℕ) → (d ≡ c → ⊥) → (messages_of d asked ≡ []) × (handed_to d asked ≡ [])

-- a bus was asked for what it has to tell alone
pub record IsTold (b b' : queues.Bus) : Type 0 where
  pub asked : List Asked
  pub are : AreTellings asked
  pub run : Runs b asked b'

-- what the bus handed out for a connection, as its link has it
pub record Fetches (c : ℕ) (b b' : queues.Bus) (old new : Link) : Type 0 where
  pub asked : List Asked
  pub run : Runs b asked b'
  pub only : IsOfOne c asked
  pub none_taken : messages_of c asked ≡ []
  pub are : AreHandings c asked
  pub talks : (took : List Envelope) (handed t g : List ℕ) → Converses took handed old t g
      → Converses took (handed ++ handed_to c asked) new t g

-- the same, and what was given of it
pub record Gives (c k : ℕ) (calls calls' : Option (List Call)) (b b' : queues.Bus) (old new : Link) : Type 0 where
  pub asked : List Asked
  pub run : Runs b asked b'
  pub only : IsOfOne c asked
  pub none_taken : messages_of c asked ≡ []
  pub are : AreHandings c asked
  pub talks : (took : List Envelope) (handed : List ℕ)
      → Carries k calls calls' (Converses took handed old) (Converses took (handed ++ handed_to c asked) new)

-- nothing comes behind the bytes that wait on a link: no line and, once these are over, nothing that the bus has for it
abbrev pub IsSilent : queues.Bus → Link → Type 0
IsSilent b l = (l.server.unsent ≡ []) × (l.server.stage ≡ Over → queue_of b.waiting.queues l.conn ≡ [])

-- a link that was given joined a bus, as its next connection
pub record Seats (number : ℕ) (b b' : Bus) (links links' : List Link) : Type 0 where
  pub link : Link
  pub behind_others : links' ≡ links ++ link ∷ []
  pub number_is : link.number ≡ number
  pub conn_is : link.conn ≡ given_of b
  pub joined : bus_of b' ≡ joins (bus_of b) link.conn
  pub counted : given_of b' ≡ given_of b + 1
  pub begins : Converses [] [] link [] []
