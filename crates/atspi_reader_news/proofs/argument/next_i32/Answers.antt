use Rattle.std.proofs.Common.{◌∙◌, ◌∷◌, ap}
use Rattle.atspi_types.specs.Data.{Data}
use Rattle.atspi_protocol.specs.news.Arguments.{then_signed}
use Rattle.atspi_reader_news.specs.Seen.{together}
use Rattle.atspi_marshal.specs.Reading.{input_of}
use Rattle.atspi_marshal_in_place.specs.Items.{item_data, item_kind, fields_data}
use Rattle.atspi_message_in_place.proofs.ReadTypes.{item_type}
use Rattle.atspi_reader_news.proofs.Came.{no_number}
use Rattle.atspi_reader_news.proofs.argument.next_i32.Goals as goal

pub returns-in_err-number : goal.returns-in_err-number
returns-in_err-number c =
    let x = c.in_ok-next.field-0 in
    no_number c.from_residual-in_err-number.result (item_data x) (item_kind x) (fields_data c.args.fields.now) (fields_data c.next.new.self) c.from_residual-in_err-number.ensures c.in_ok-next.ensures.comes
    (item_type (input_of x.input) x.levels (item_kind x) x.bound x.at x.known) (λ t. let clash = c.in_err-number.ensures.is.1 t in absurd cc)

pub returns : goal.returns
returns c = ap (then_signed together) (c.in_ok-next.ensures.comes ∙ ap (λ (x : Data). x ∷ fields_data c.next.new.self) c.in_ok-number.ensures.value)
