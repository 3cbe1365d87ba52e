use Rattle.atspi_run_replay.proofs.Completing.{ends_full}
use Rattle.atspi_run_replay.proofs.laws.replay_ends_at_its_limit.Goals as goal

pub returns : goal.returns
returns c = record { ends_full = ends_full }
