use Rattle.std.proofs.Common.{sym, ap, ◌∙◌}
use Rattle.std.specs.Prelude.{option_copied}
use Rattle.atspi_types.specs.Data.{text_data}
use Rattle.atspi_types.proofs.DataLemmas.{data_of-Text}
use Rattle.atspi_match.specs.routing.BusState.{text_or_empty}
use Rattle.atspi_bus_answers.proofs.Literals.{nil-chars}
use Rattle.atspi_bus_answers.proofs.values.owner_value.Goals as goal

pub returns-in_ok-of-in-None : goal.returns-in_ok-of-in-None
returns-in_ok-of-in-None c =
    data_of-Text c.in_ok-of-in-None.field-0 ∙ ap text_data (c.in_ok-of-in-None.ensures ∙ nil-chars)
    ∙ sym (ap (λ o. text_data (text_or_empty (option_copied o))) c.in-None.is)
