use Rattle.std.proofs.Common.{◌∙◌}
use Rattle.atspi_run_hit.proofs.Asking.{if_ok}
use Rattle.atspi_run_hit.proofs.Few.{application_chars}
use Rattle.atspi_run_hit.proofs.placed.application.Goals as goal

pub returns : goal.returns
returns c = if_ok _ _ c.of.result (λ name e. e ∙ application_chars) c.of.ensures
