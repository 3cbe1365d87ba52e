use Rattle.std.proofs.Common.{◌<◌, ◌^◌, ℕ, List, length, sym, ap, subst, ◌∙◌}
use Rattle.std.proofs.lemmas.Result.{IfOk-weaker}
use Rattle.atspi_types.specs.Data.{text_data}
use Rattle.atspi_protocol_messages.specs.Plain.{are_plain}
use Rattle.atspi_app_answers.proofs.Decimals.{plain_decimal, short_decimal}
use Rattle.atspi_app_answers.proofs.properties.decimal_text.Goals as goal

pub literal-requires-clause-plain : goal.literal-requires-clause-plain
literal-requires-clause-plain c = ap are_plain (c.deref.ensures ∙ c.in_ok-text.ensures.ok) ∙ plain_decimal c.args.n c.ranges.n.fits

pub literal-requires-clause-short : goal.literal-requires-clause-short
literal-requires-clause-short c = subst (λ (w : List ℕ). length w < 2 ^ 32) (sym (c.deref.ensures ∙ c.in_ok-text.ensures.ok)) (short_decimal c.args.n c.ranges.n.fits)

pub returns : goal.returns
returns c = IfOk-weaker c.literal.result _ _ (λ v h. h ∙ ap text_data (c.deref.ensures ∙ c.in_ok-text.ensures.ok)) c.literal.ensures
