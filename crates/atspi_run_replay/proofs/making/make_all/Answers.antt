use Rattle.atspi_run_replay.proofs.Script.{played_none}
use Rattle.atspi_run_replay.proofs.making.make_all.Goals as goal

pub make_in-requires-clause-played : goal.make_in-requires-clause-played
make_in-requires-clause-played g c = played_none _ (c.in-Ok.ensures.begins c.requires.kit_count c.requires.spare_count) c.in-Ok.ensures.silent
