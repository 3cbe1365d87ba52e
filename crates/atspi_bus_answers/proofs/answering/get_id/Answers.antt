use Rattle.std.proofs.Common.{ap, ◌∙◌, [], ◌∷◌}
use Rattle.atspi_types.specs.Data.{Data, text_data}
use Rattle.atspi_types.proofs.DataLemmas.{data_of-Text}
use Rattle.atspi_match.specs.routing.Answers as answers
use Rattle.atspi_bus_answers.proofs.Literals.{id-chars}
use Rattle.atspi_bus_answers.proofs.answering.get_id.Goals as goal

pub returns : goal.returns
returns c =
    ap answers.returns (c.in_ok-one.ensures ∙ ap (λ (d : Data). d ∷ []) (data_of-Text c.in_ok-id.id ∙ ap text_data (c.in_ok-id.ensures ∙ id-chars)))
