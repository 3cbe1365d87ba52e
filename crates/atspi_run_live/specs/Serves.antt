-- What the live commands do: each is its end's run on the socket at the path, and changes nothing else.
use Rattle.std.specs.Prelude.{◌≡◌, ◌⊎◌, ℕ, List, [], Option}
use Rattle.std.specs.Io.KnownBytes.{Appends}
use Rattle.atspi_live_app.specs.Runs as application
use Rattle.atspi_live_bus.specs.Rounds as bus
use Rattle.atspi_live_bus.specs.Service.{HasSpent, IsService, OfTold}
use Rattle.atspi_live_bus.specs.Stops.{Ends}
use Rattle.atspi_live_conversation.specs.Reports as reports
use Rattle.atspi_live_host.specs.declared.call.Call.{Call}
use Rattle.atspi_live_reader.specs.Runs as reader
use Rattle.atspi_live_registry.specs.Runs as registry

-- the bus was served: what was given on each link is what the bus says for what was taken, by rounds
pub record IsServed (path : List ℕ) (rounds status : ℕ) (calls' : Option (List Call)) : Type 0 where
  pub service : OfTold IsService calls'
  pub spent : status ≡ 13 → OfTold HasSpent calls'
  pub run : OfTold (bus.IsRun path status rounds) calls'

-- `bus`: it was served; or memory was wanting before the first call of the host
pub record ServesBus (path : List ℕ) (rounds status : ℕ) (calls calls' : Option (List Call)) (faults faults' : ℕ)
    : Type 0 where
  pub ends : Ends status faults faults'
  pub so : ((status ≡ 5) × (calls' ≡ calls)) ⊎ IsServed path rounds status calls'

-- `registry`: what is given is what the registry says for what was taken, and the status tells how it ended
pub record ServesRegistry (path : List ℕ) (rounds status : ℕ) (links' : List ℕ) (calls' : Option (List Call))
    (faults faults' link_faults link_faults' : ℕ) (w w' : Option (List ℕ)) (sink sink' : ℕ) : Type 0 where
  pub speech : registry.AllSpeak links' calls'
  pub ends : registry.RunEnds path links' status rounds calls' w w'
  pub causes : reports.Causes status faults faults' link_faults link_faults' sink sink'

-- `app`: the lines of the input were done in turn with the messages that were taken
pub record ServesApp (path : List ℕ) (rounds status : ℕ) (left left' : Option (List ℕ)) (source source' : ℕ)
    (links' : List ℕ) (calls calls' : Option (List Call)) (faults faults' link_faults link_faults' : ℕ)
    (w w' : Option (List ℕ)) (sink sink' : ℕ) : Type 0 where
  pub ends : application.RunEnds path left left' source source' links' status rounds calls calls' w w'
  pub causes : reports.Causes status faults faults' link_faults link_faults' sink sink'

-- `read`: what was written is what the reader speaks and shows of what was taken
pub record ServesReader (path : List ℕ) (rounds status : ℕ) (links' : List ℕ) (calls' : Option (List Call))
    (faults faults' link_faults link_faults' : ℕ) (w w' : Option (List ℕ)) (sink sink' : ℕ) : Type 0 where
  pub speech : reader.AllSpeak links' calls'
  pub ends : reader.RunEnds path links' status rounds calls' w w'
  pub silent : status ≡ 10 → Appends w w' []
  pub causes : reader.Causes status faults faults' link_faults link_faults' sink sink'
