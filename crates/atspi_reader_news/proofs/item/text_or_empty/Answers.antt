use Rattle.std.proofs.Common.{◌∙◌}
use Rattle.std.proofs.lemmas.Str.{chars-nil}
use Rattle.atspi_types.specs.Kinds.{text}
use Rattle.atspi_marshal.specs.Reading.{input_of}
use Rattle.atspi_marshal_in_place.specs.Items.{item_data, item_kind}
use Rattle.atspi_message_in_place.proofs.ReadTypes.{item_type}
use Rattle.atspi_reader_news.proofs.Told.{same_value, differs}
use Rattle.atspi_reader_news.proofs.Lists.{not_text}
use Rattle.atspi_reader_news.proofs.item.text_or_empty.Goals as goal

pub returns-in-None : goal.returns-in-None
returns-in-None c =
    let x = c.args.value in
    same_value c.of-in-None.result _ _ (chars-nil ∙ not_text (item_data x) (differs (item_data x) (item_kind x) text (item_type (input_of x.input) x.levels (item_kind x) x.bound x.at x.known) (λ t. let clash = c.in-None.ensures.is.1 t in absurd cc))) c.of-in-None.ensures
