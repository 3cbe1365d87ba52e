use Rattle.std.proofs.Common.{List, sym, ap, ◌∙◌}
use Rattle.atspi_types.specs.Kinds.{text, variant}
use Rattle.atspi_types.specs.Data.{Data, dictionary_data, entries_of}
use Rattle.atspi_app_answers.proofs.lists.all_properties.Goals as goal

pub returns : goal.returns
returns c = λ faces s is k. ap (λ (es : List (Data × Data)). dictionary_data text variant (entries_of es)) (c.in_ok-pairs.ensures faces s is k) ∙ sym c.dictionary.ensures
