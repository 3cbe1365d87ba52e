use Rattle.std.proofs.Common.{◌∙◌}
use Rattle.std.proofs.lemmas.Result.{IfOk-weaker}
use Rattle.atspi_app_known.proofs.OfStarting.Rule.{rule_chars}
use Rattle.atspi_app_known.proofs.starting.calls.rule.Goals as goal

pub returns : goal.returns
returns c = IfOk-weaker c.of.result _ _ (λ t h. h ∙ rule_chars) c.of.ensures
