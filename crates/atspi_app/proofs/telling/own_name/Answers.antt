use Rattle.std.proofs.Common.{ap, ◌∙◌}
use Rattle.std.proofs.lemmas.Result.{IfOk-weaker}
use Rattle.std.proofs.lemmas.Str.{chars-nil}
use Rattle.atspi_protocol.specs.exporting.Starting.{name_or_empty}
use Rattle.atspi_app.proofs.telling.own_name.Goals as goal

pub returns-in-None : goal.returns-in-None
returns-in-None c = IfOk-weaker c.of.result _ _ (λ x e. e ∙ chars-nil ∙ ap name_or_empty c.in-None.ensures) c.of.ensures
