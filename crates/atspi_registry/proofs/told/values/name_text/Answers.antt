use Rattle.std.proofs.Common.{sym, ap, subst, ◌∙◌, chars}
use Rattle.std.proofs.lemmas.Result.{IfOk-weaker}
use Rattle.atspi_base.specs.Text.{HasNoZero}
use Rattle.atspi_registry.proofs.OfTold.NameTexts.{name-no_zero, name-chars}
use Rattle.atspi_registry.proofs.told.values.name_text.Goals as goal

pub of-requires-clause-no_zero : goal.of-requires-clause-no_zero
of-requires-clause-no_zero c = subst HasNoZero (sym c.as_str.ensures.bytes) (name-no_zero c.args.name.now c.as_str.ensures.rule)

pub returns : goal.returns
returns c = IfOk-weaker c.of.result _ _ (λ t h. h ∙ ap chars c.as_str.ensures.bytes ∙ name-chars c.args.name.now c.as_str.ensures.rule) c.of.ensures
