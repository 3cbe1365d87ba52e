use Rattle.std.proofs.Common.{◌∙◌, sym, ap}
use Rattle.std.specs.Option.{option_map}
use Rattle.atspi_marshal_in_place.specs.codes.Codes.{is_structure}
use Rattle.atspi_marshal.specs.Reading.{input_of}
use Rattle.atspi_marshal_in_place.specs.Items.{item_data, item_kind, fields_data}
use Rattle.atspi_message_in_place.proofs.ReadTypes.{item_type}
use Rattle.atspi_reader_news.specs.inner.Items.{item_seen}
use Rattle.atspi_reader_news.proofs.Told.{differs_by}
use Rattle.atspi_reader_news.proofs.Lists.{not_item, item_fields}
use Rattle.atspi_reader_news.proofs.item.item.Goals as goal

pub returns-in_err-fields : goal.returns-in_err-fields
returns-in_err-fields c =
    let x = c.args.value in
    ap (option_map item_seen) c.from_residual.ensures
    ∙ not_item (item_data x) (differs_by is_structure (item_data x) (item_kind x) (item_type (input_of x.input) x.levels (item_kind x) x.bound x.at x.known) (λ t. let clash = c.in_err-fields.ensures.is.1 t in absurd cc))

pub returns : goal.returns
returns c = c.item_fields.ensures ∙ sym (item_fields (item_data c.args.value) (fields_data c.in_ok-fields.field-0) c.in_ok-fields.ensures.fields)
