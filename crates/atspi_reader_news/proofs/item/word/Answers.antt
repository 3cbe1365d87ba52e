use Rattle.std.proofs.Common.{◌∙◌, sym, ap, Option}
use Rattle.std.specs.Option.{option_map}
use Rattle.atspi_types.specs.Kinds.{number, u32}
use Rattle.atspi_marshal.specs.Reading.{input_of}
use Rattle.atspi_marshal_in_place.specs.Items.{item_data, item_kind}
use Rattle.atspi_marshal_in_place.specs.declared.cursor.Item.{Item}
use Rattle.atspi_message_in_place.proofs.ReadTypes.{item_type}
use Rattle.atspi_reader_news.specs.inner.Items.{word_seen}
use Rattle.atspi_reader_news.proofs.Told.{differs}
use Rattle.atspi_reader_news.proofs.Lists.{not_number}
use Rattle.atspi_reader_news.proofs.item.word.Goals as goal

pub returns-in-None : goal.returns-in-None
returns-in-None c =
    let x = c.in-Some.value in
    not_number (item_data x) (differs (item_data x) (item_kind x) (number u32) (item_type (input_of x.input) x.levels (item_kind x) x.bound x.at x.known) (λ t. let clash = c.in-None.ensures.is.1 t in absurd cc))
    ∙ sym (ap (λ (o : Option Item). word_seen (option_map item_data o)) c.in-Some.is)
