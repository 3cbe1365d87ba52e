use Rattle.std.proofs.Common.{[], ◌∷◌}
use Rattle.std.proofs.lemmas.Result.{IfOk-weaker}
use Rattle.atspi_types.specs.Data.{Data, text_data}
use Rattle.atspi_types.proofs.DataLemmas.{data_of-Text}
use Rattle.std.proofs.Common.{sym, ap, subst, ◌∙◌, ◌<◌, ◌^◌, ℕ, List, length, chars}
use Rattle.atspi_base.specs.Text.{HasNoZero}
use Rattle.atspi_bus_answers.proofs.Literals.{error-no_zero, error-counted, error-chars}
use Rattle.atspi_bus_answers.proofs.said.error_body.Goals as goal

pub of-requires-clause-no_zero : goal.of-requires-clause-no_zero
of-requires-clause-no_zero c = subst HasNoZero (sym c.text.ensures) (error-no_zero c.args.error)

pub of-requires-clause-counted : goal.of-requires-clause-counted
of-requires-clause-counted c = subst (λ (l : List ℕ). length l < 2 ^ 32) (sym c.text.ensures) (error-counted c.args.error)

pub returns : goal.returns
returns c =
    IfOk-weaker c.one.result _ _
    (λ body h. h ∙ ap (λ (d : Data). d ∷ []) (data_of-Text c.in_ok-text.text ∙ ap text_data (c.in_ok-text.ensures ∙ ap chars c.text.ensures ∙ error-chars c.args.error)))
    c.one.ensures
