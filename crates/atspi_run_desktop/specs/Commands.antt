-- What the desktop session's program does.
use Rattle.std.specs.Prelude.{◌≡◌, ◌⊎◌, ℕ, List, [], ◌∷◌, ◌++◌, Option, codes}
use Rattle.std.specs.Io.KnownBytes.{Appends}
use Rattle.atspi_base.specs.Outside.{AppendsPart}
use Rattle.atspi_live_host.specs.declared.call.Call.{Call}
use Rattle.atspi_live_conversation.specs.Reports.{Causes}
use Rattle.atspi_live_launcher.specs.Runs.{AllSpeak, RunEnds}
use Rattle.atspi_run_desktop.specs.Words.{IsLauncher}
use Rattle.atspi_run_desktop.specs.declared.commands.TheConstants.{FOR_GOOD}

-- the launcher ran with this address, on the link to the bus at this path
pub record Launches (path address : List ℕ) (status : ℕ) (links : List ℕ) (calls : Option (List Call))
    (faults faults' link_faults link_faults' : ℕ) (w w' : Option (List ℕ)) (sink sink' : ℕ) : Type 0 where
  pub speech : AllSpeak address links calls
  pub ends : RunEnds path address links status FOR_GOOD calls w w'
  pub causes : Causes status faults faults' link_faults link_faults' sink sink'

-- the words are those of a command
abbrev pub IsCommand : List (List ℕ) → Type 0
IsCommand words = (path : List ℕ) × (address : List ℕ) × IsLauncher words path address

-- what is written for other words
abbrev pub usage : List ℕ
usage = codes "usage: atspi-desktop launcher SESSION_PATH ADDRESS" ++ 10 ∷ []

-- the text was written, and the status is the one that is due; or a front of it was, and the status is 4
abbrev pub Tells : ℕ → List ℕ → ℕ → Option (List ℕ) → Option (List ℕ) → Type 0
Tells due text status w w' = ((status ≡ due) × Appends w w' text) ⊎ ((status ≡ 4) × AppendsPart w w' text)
