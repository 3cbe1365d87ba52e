use Rattle.std.proofs.Common.{◌∙◌}
use Rattle.atspi_types.specs.Kinds.{number, variant, i32}
use Rattle.atspi_marshal.specs.Reading.{input_of}
use Rattle.atspi_marshal_in_place.specs.Items.{item_data, item_kind}
use Rattle.atspi_message_in_place.proofs.ReadTypes.{item_type}
use Rattle.atspi_reader_news.proofs.Told.{differs}
use Rattle.atspi_reader_news.proofs.Lists.{no_count, no_count_in}
use Rattle.atspi_reader_news.proofs.reply.count_of.Goals as goal

pub returns-in_err-variant : goal.returns-in_err-variant
returns-in_err-variant c =
    let x = c.args.value in
    c.from_residual.ensures ∙ no_count (item_data x) (differs (item_data x) (item_kind x) variant (item_type (input_of x.input) x.levels (item_kind x) x.bound x.at x.known) (λ t. let clash = c.in_err-variant.ensures.is.1 t in absurd cc))

pub returns-in_err-count : goal.returns-in_err-count
returns-in_err-count c =
    let x = c.in_ok-variant.field-0 in
    c.from_residual-in_err-count.ensures
    ∙ no_count_in (item_data c.args.value) (item_data x) (item_kind x) c.in_ok-variant.ensures.value (differs (item_data x) (item_kind x) (number i32) (item_type (input_of x.input) x.levels (item_kind x) x.bound x.at x.known) (λ t. let clash = c.in_err-count.ensures.is.1 t in absurd cc))
