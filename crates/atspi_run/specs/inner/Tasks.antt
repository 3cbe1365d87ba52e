-- What is done in a world, by its status.
use Rattle.std.specs.Prelude.{ℕ, ◌<◌, List, Option}
use Rattle.atspi_run_replay.specs.declared.input.TheConstants.{SCRIPT_LIMIT}
use Rattle.atspi_run_replay.specs.Made.{Made}
use Rattle.atspi_run_replay.specs.Run.{Replayed}
use Rattle.atspi_run.specs.declared.words.Task.{Task}
use Rattle.atspi_run.specs.declared.words.Task.TheVariants.{Replay, Make}

-- the numbers of a script that is to be made are within their limits
abbrev pub MayDo : Task → Type 0
MayDo (Replay options) = Unit {0}
MayDo (Make script) = (script.count < 4294967295) × (script.seed < 2147483648)

abbrev pub DoesTask : Task → ℕ → Option (List ℕ) → Option (List ℕ) → Option (List ℕ) → Option (List ℕ) → Type 0
DoesTask (Replay options) status left left' w w' = Replayed options SCRIPT_LIMIT status left left' w w'
DoesTask (Make script) status left left' w w' = Made script.count script.seed status w w'
