use Rattle.atspi_run_replay.proofs.Completing.{ends_well}
use Rattle.atspi_run_replay.proofs.laws.replay_ends_well.Goals as goal

pub returns : goal.returns
returns c = record { ends_well = ends_well }
