use Rattle.std.proofs.Common.{subst}
use Rattle.atspi_app_calls.specs.inner.Ask.{IsFound}
use Rattle.atspi_app_calls.proofs.asking.setting.Goals as goal

pub returns-in-Ok : goal.returns-in-Ok
returns-in-Ok c = λ found v body h s. c.set_one.ensures found v body (subst (λ r. IsFound r found) c.in-Ok.is h) s
