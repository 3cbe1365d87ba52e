-- How a run of a live end begins on its link, which status tells how it ended, and what is written then.
use Rattle.std.specs.Prelude.{◌≡◌, ◌⊎◌, ℕ, List, [], ◌∷◌, Option, None, Some, ⊤}
use Rattle.std.specs.Io.KnownBytes.{Appends}
use Rattle.atspi_base.specs.Outside.{AppendsPart, Rose}
use Rattle.atspi_script.specs.FaultText.{fault_line}
use Rattle.atspi_live_host.specs.declared.call.Call.{Call}
use Rattle.atspi_live_host.specs.declared.call.Call.TheVariants.{Connect}
use Rattle.atspi_live_host.specs.declared.call.Did.TheVariants.{Done}
use Rattle.atspi_live_conversation.specs.declared.ending.Ending.{Ending}
use Rattle.atspi_live_conversation.specs.declared.ending.Ending.TheVariants as endings

-- no call was made yet, where the host tells its calls
abbrev pub Begins : Option (List Call) → Type 0
Begins None = ⊤
Begins (Some cs) = cs ≡ []

-- where the host tells its calls: the link was connected at the path, and behind that such calls were made
abbrev pub IsOnLink : List ℕ → ℕ → Option (List Call) → (List Call → Type 0) → Type 0
IsOnLink path k None P = ⊤
IsOnLink path k (Some cs) P = (calls : List Call) × P calls × (cs ≡ Connect path (Done k) ∷ calls)

-- nothing is written, and this is the status
abbrev pub Quietly : ℕ → ℕ → Option (List ℕ) → Option (List ℕ) → Type 0
Quietly meant status w w' = (status ≡ meant) × (w' ≡ w)

-- a line was written: status 6; or a front of it, where the sink failed or memory was wanting
abbrev pub Writes : List ℕ → ℕ → Option (List ℕ) → Option (List ℕ) → Type 0
Writes line status w w' = ((status ≡ 6) × Appends w w' line) ⊎ (((status ≡ 4) ⊎ (status ≡ 5)) × AppendsPart w w' line)

-- the status that tells how a run ended, and what is written: the line of a fault alone
abbrev pub Reports : Ending → ℕ → Option (List ℕ) → Option (List ℕ) → Type 0
Reports endings.PeerEnded = Quietly 0
Reports endings.NoMemory = Quietly 5
Reports (endings.Malformed start fault) = Writes (fault_line start fault.place fault.reason)
Reports endings.HostFailed = Quietly 7
Reports endings.RoundsDone = Quietly 8
Reports endings.NotAuthenticated = Quietly 10
Reports endings.Spent = Quietly 13

-- which counts changed, by the status: 7 where one of the host's did, 4 where the sink's did
pub record Causes (status faults faults' link_faults link_faults' sink sink' : ℕ) : Type 0 where
  pub by_host : status ≡ 7 → Rose faults faults' ⊎ Rose link_faults link_faults'
  pub no_host : (status ≡ 7) ⊎ ((faults' ≡ faults) × (link_faults' ≡ link_faults))
  pub by_sink : status ≡ 4 → Rose sink sink'
  pub no_sink : (status ≡ 4) ⊎ (sink' ≡ sink)

-- the count of the sink rose where it failed, and else is the same
abbrev pub SinkBlamed : ℕ → ℕ → ℕ → Type 0
SinkBlamed status before after = (status ≡ 4 → Rose before after) × ((status ≡ 4) ⊎ (after ≡ before))
