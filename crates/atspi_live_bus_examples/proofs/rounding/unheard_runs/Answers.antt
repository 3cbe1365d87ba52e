use Rattle.std.proofs.Common.{refl, inl}
use Rattle.atspi_live_bus_examples.proofs.Facts.{failed_more, failed_eight, path_of_run}
use Rattle.atspi_live_bus_examples.proofs.rounding.unheard_runs.Goals as goal

pub returns-clause-failed : goal.returns-clause-failed
returns-clause-failed c = inl (refl, refl)

pub returns-clause-more : goal.returns-clause-more
returns-clause-more c r = failed_more r

pub returns-clause-other_status : goal.returns-clause-other_status
returns-clause-other_status c r = failed_eight r

pub returns-clause-other_path : goal.returns-clause-other_path
returns-clause-other_path c r = path_of_run r
