use Rattle.std.proofs.Common.{subst}
use Rattle.std.specs.Prelude.{IsOkAnd}
use Rattle.atspi_app_calls.specs.reading.Arguments.{IsSigned}
use Rattle.atspi_app_calls.specs.inner.Ask.{IsLine}
use Rattle.atspi_app_calls.proofs.PropertyLemmas.{set_other}
use Rattle.atspi_app_calls.proofs.asking.set_one.Goals as goal

pub returns-in-None : goal.returns-in-None
returns-in-None c = λ found v body h s. set_other found v (subst (λ q. IsOkAnd found (IsLine q)) c.in-Id.is h) (subst (λ o. IsSigned o v) c.in-None.is s)
