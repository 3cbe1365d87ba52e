use Rattle.std.proofs.Common.{◌∙◌}
use Rattle.std.proofs.lemmas.Result.{IfOk-weaker}
use Rattle.std.proofs.lemmas.Str.{chars-nil}
use Rattle.atspi_app_contents.proofs.values.values.empty.Goals as goal

pub returns : goal.returns
returns c = IfOk-weaker c.of.result _ _ (λ x h. h ∙ chars-nil) c.of.ensures
