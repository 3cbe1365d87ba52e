use Rattle.std.proofs.Common.{ap, ◌∙◌, [], ◌∷◌}
use Rattle.atspi_types.specs.Data.{Data, boolean_data}
use Rattle.atspi_types.proofs.DataLemmas.{data_of-Bool}
use Rattle.atspi_match.specs.routing.Answers as answers
use Rattle.atspi_bus_answers.proofs.owning.name_has_owner.Goals as goal

pub returns : goal.returns
returns c =
    ap answers.returns (c.in_ok-one.ensures ∙ ap (λ (d : Data). d ∷ []) (data_of-Bool c.in_ok-owned.owned ∙ ap boolean_data c.in_ok-owned.ensures))
