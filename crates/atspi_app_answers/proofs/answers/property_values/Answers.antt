use Rattle.std.proofs.Common.{[], ◌∷◌, sym, ap, ◌∙◌}
use Rattle.std.proofs.lemmas.Result.{IfOk-weaker}
use Rattle.atspi_types.specs.Data.{Data}
use Rattle.atspi_app_answers.proofs.answers.property_values.Goals as goal

pub returns : goal.returns
returns c = IfOk-weaker c.one.result _ _ (λ v h faces s is k. ap (λ (d : Data). d ∷ []) (c.in_ok-value.ensures faces s is k) ∙ sym h) c.one.ensures
