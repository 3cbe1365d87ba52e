-- What a run of the live launcher does, and how it ends.
use Rattle.std.specs.Prelude.{◌≡◌, ◌⊎◌, ℕ, List, [], ◌∷◌, Option, ⊤}
use Rattle.atspi_live_host.specs.declared.call.Call.{Call}
use Rattle.atspi_live_conversation.specs.Rounds.{IsRun}
use Rattle.atspi_live_conversation.specs.Speech.{Speaks, Ends}
use Rattle.atspi_live_conversation.specs.declared.ending.Ending.{Ending}
use Rattle.atspi_live_conversation.specs.Reports.{IsOnLink, Reports}
use Rattle.atspi_live_launcher.specs.Standing.{IsAfter, IsEmpty, IsSpent}

-- what was given on each link that is open is a front of what the launcher says for what was taken there
abbrev pub AllSpeak : List ℕ → List ℕ → Option (List Call) → Type 0
AllSpeak address [] calls = ⊤
AllSpeak address (k ∷ ks) calls = Speaks (IsAfter address) k calls × AllSpeak address ks calls

-- a run on this link ended so, with its rounds: in each one read, and then one write exactly where not all is given
-- that the launcher says for what was taken
pub record EndsOn (path address : List ℕ) (k status rounds : ℕ) (calls : Option (List Call)) (w w' : Option (List ℕ))
    : Type 0 where
  pub ending : Ending
  pub ends : Ends (IsAfter address) IsSpent k ending rounds calls
  pub run : IsOnLink path k calls (IsRun (λ _. IsAfter address) IsEmpty k 4096 ending rounds)
  pub reports : Reports ending status w w'

-- a run ended so on the one link that is open; where there is none, it was not given: status 7, or memory was wanting
-- before
abbrev pub RunEnds : List ℕ → List ℕ → List ℕ → ℕ → ℕ → Option (List Call) → Option (List ℕ) → Option (List ℕ) → Type 0
RunEnds path address [] status rounds calls w w' = ((status ≡ 7) ⊎ (status ≡ 5)) × (w' ≡ w)
RunEnds path address (k ∷ ks) status rounds calls w w' = EndsOn path address k status rounds calls w w' × (ks ≡ [])
