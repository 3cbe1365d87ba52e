-- What a call of a reader did, and the readers that calls keep.
use Rattle.std.specs.Prelude.{◌≡◌, ◌≤◌, ◌<◌, true, List, [], None, Result, OnOk, OnErr, IsErrOf}
use Rattle.std.specs.List.{list_all}
use Rattle.atspi_protocol.specs.declared.ends.fault.EndFault.{EndFault}
use Rattle.atspi_protocol.specs.declared.ends.fault.EndFault.TheVariants.{Spent}
use Rattle.atspi_base.specs.valid_names.Names.{is_bus_name}
use Rattle.atspi_protocol.specs.following.ReaderState.{Followed, ReaderState}
use Rattle.atspi_protocol.specs.following.Wishes.{wishes}
use Rattle.atspi_reader_known.specs.Unique.{AreUnique}

-- no two applications have one name, and each name is a bus name
pub record Fine (apps : List Followed) : Type 0 where
  pub named : list_all (λ (app : Followed). is_bus_name app.name) apps ≡ true
  pub unique : AreUnique apps

-- where no call waits nothing is wanted, and the next message has a number or is the first without one
pub record IsState (s : ReaderState) : Type 0 where
  pub resting : s.pending ≡ None → wishes s.apps ≡ []
  pub fine : Fine s.apps
  pub within : s.next ≤ 4294967296

-- The step was done, and its message has a number; or it would pass the last number, or memory was wanting, and then
-- all is as before.
pub record Does {T : Type 0} (result : Result T EndFault) (old new step : ReaderState) : Type 0 where
  pub done : OnOk result (new ≡ step)
  pub room : OnOk result (step.next ≤ 4294967296)
  pub spent : IsErrOf result Spent → 4294967296 < step.next
  pub kept : OnErr result (new ≡ old)
