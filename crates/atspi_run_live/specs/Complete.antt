-- What follows where no call that a live command is lent fails, and the peer does its part.
use Rattle.std.specs.Prelude.{◌≡◌, ◌⊎◌, ℕ, List, [], ◌∷◌, length, Option, None, Some, ⊤}
use Rattle.atspi_auth.specs.Talk.{after, behind, client_start, fault_in}
use Rattle.atspi_message.specs.Envelope.{Envelope}
use Rattle.atspi_stream.specs.Stream.{HasFault, IsParted}
use Rattle.atspi_live_conversation.specs.Moved.{AllGoOn, reads}
use Rattle.atspi_live_host.specs.Calls.{taken}
use Rattle.atspi_live_host.specs.declared.call.Call.{Call}

-- this status; or memory is wanting, or serials are spent
abbrev pub EndsWell : ℕ → ℕ → Type 0
EndsWell due status = (status ≡ due) ⊎ ((status ≡ 5) ⊎ (status ≡ 13))

-- THE PEER DOES ITS PART on this link: it authenticates, sends messages of which none is at fault, and ends within so
-- many rounds, so not all of them read without its end
pub record DoesItsPart (k rounds : ℕ) (calls : List Call) : Type 0 where
  pub authenticates : fault_in (after client_start (taken k calls)).stage ≡ None
  pub sends : (messages : List (Envelope × List ℕ)) (rest : List ℕ) (place reason : ℕ)
      → IsParted (behind client_start (taken k calls)) messages rest → HasFault rest place reason → ⊥
  pub ends : AllGoOn (reads k calls) → length (reads k calls) ≡ rounds → ⊥

-- the same on the one link that is open, where the host tells its calls
abbrev pub PeerDoes : List ℕ → ℕ → Option (List Call) → Type 0
PeerDoes links rounds None = ⊥
PeerDoes [] rounds (Some calls) = ⊤
PeerDoes (k ∷ ks) rounds (Some calls) = DoesItsPart k rounds calls
