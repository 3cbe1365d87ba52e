use Rattle.std.proofs.Common.{sym, ap, subst, ◌∙◌, chars}
use Rattle.atspi_base.specs.Text.{HasNoZero}
use Rattle.atspi_types.specs.Data.{text_data}
use Rattle.atspi_types.proofs.DataLemmas.{data_of-Text}
use Rattle.atspi_bus_answers.proofs.NameTexts.{name-no_zero, name-chars}
use Rattle.atspi_bus_steps.proofs.standing.name_value.Goals as goal

pub of-requires-clause-no_zero : goal.of-requires-clause-no_zero
of-requires-clause-no_zero c = subst HasNoZero (sym c.as_str.ensures.bytes) (name-no_zero c.args.name.now c.as_str.ensures.rule)

pub returns : goal.returns
returns c =
    data_of-Text c.in_ok-of.field-0
    ∙ ap text_data (c.in_ok-of.ensures ∙ ap chars c.as_str.ensures.bytes ∙ name-chars c.args.name.now c.as_str.ensures.rule)
