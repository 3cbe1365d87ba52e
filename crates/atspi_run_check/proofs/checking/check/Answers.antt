use Rattle.atspi_run_check.proofs.CheckLemmas.{ends_checked}
use Rattle.atspi_run_check.proofs.Completing.{as_due}
use Rattle.atspi_run_check.proofs.checking.check.Goals as goal

pub returns-clause-checked : goal.returns-clause-checked
returns-clause-checked g c = ends_checked _ _ _ _ _ c.check_stream.ensures.ends

pub returns-clause-complete : goal.returns-clause-complete
returns-clause-complete g c =
    as_due _ _ _ _ _ _ _ _ _ _ (ends_checked _ _ _ _ _ c.check_stream.ensures.ends) c.check_stream.ensures.causes
