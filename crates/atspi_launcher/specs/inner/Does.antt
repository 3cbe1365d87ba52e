-- What a call of the launcher did, where it did a step of the definition, or why it did not.
use Rattle.std.specs.Prelude.{◌≡◌, ◌<◌, ◌≤◌, Bool, true, false, Result, OnOk, OnErr, IsErrOf}
use Rattle.atspi_protocol.specs.declared.ends.fault.EndFault.{EndFault}
use Rattle.atspi_protocol.specs.declared.ends.fault.EndFault.TheVariants.{Spent}
use Rattle.atspi_launcher.specs.declared.ask.Ask.{Ask}
use Rattle.atspi_launcher.specs.declared.ask.Ask.TheVariants as asks
use Rattle.atspi_launcher.specs.Launching.{Launcher, LauncherStep, queued}

-- The step was done, and its messages have numbers; or they would pass the last number, or memory was wanting, and then
-- all is as before.
pub record Does {T : Type 0} (result : Result T EndFault) (old new : Launcher) (step : LauncherStep) : Type 0 where
  pub done : OnOk result (new ≡ queued old step)
  pub room : OnOk result (step.state.next ≤ 4294967296)
  pub spent : IsErrOf result Spent → 4294967296 < step.state.next
  pub kept : OnErr result (new ≡ old)

-- it sets a property
abbrev pub is_change : Ask → Bool
is_change (asks.Set p on) = true
is_change ask = false
