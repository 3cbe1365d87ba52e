-- What a call of the registry did, where it did a step of the definition, or why it did not.
use Rattle.std.specs.Prelude.{◌≡◌, ◌<◌, ◌≤◌, ◌==◌, ℕ, Bool, List, [], ◌∷◌, Option, None, Some, codes, unwrap_or}
use Rattle.std.specs.Prelude.{slice_get, if◌then◌else◌, Result, OnOk, OnErr, IsErrOf}
use Rattle.atspi_message.specs.Envelope.{Envelope}
use Rattle.atspi_protocol.specs.declared.ends.fault.EndFault.{EndFault}
use Rattle.atspi_protocol.specs.declared.ends.fault.EndFault.TheVariants.{Spent}
use Rattle.atspi_protocol.specs.registering.RegistryState.{RegistryState, is_of}
use Rattle.atspi_protocol.specs.registering.Told.{children_changed, deregistered}
use Rattle.atspi_protocol.specs.registering.Steps.{Registry, RegistryStep, queued}

-- The step was done, and its messages have numbers; or they would pass the last number, or memory was wanting, and then
-- all is as before.
pub record Does {T : Type 0} (result : Result T EndFault) (old new : Registry) (step : RegistryStep) : Type 0 where
  pub done : OnOk result (new ≡ queued old step)
  pub room : OnOk result (step.state.next ≤ 4294967296)
  pub spent : IsErrOf result Spent → 4294967296 < step.state.next
  pub kept : OnErr result (new ≡ old)

-- its own name, an empty one before it is told
abbrev pub own_name : RegistryState → List ℕ
own_name s = unwrap_or s.own []

-- the news that a child goes, where somebody asks for them
abbrev pub told_at : Bool → ℕ → Option (List ℕ × List ℕ) → List Envelope
told_at asked i None = []
told_at asked i (Some child) = if asked then children_changed (codes "remove") i child ∷ [] else []

abbrev pub removal_told : Bool → List (List ℕ × List ℕ) → Option ℕ → List Envelope
removal_told asked children None = []
removal_told asked children (Some i) = told_at asked i (slice_get children i)

-- the news that a pair goes, where it is the listener's
abbrev pub told_pair : List ℕ → List ℕ × List ℕ → List Envelope
told_pair name p = if is_of name p then deregistered p ∷ [] else []
