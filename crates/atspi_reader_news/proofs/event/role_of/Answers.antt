use Rattle.std.proofs.Common.{◌∙◌}
use Rattle.atspi_types.specs.Kinds.{number, u32, i32}
use Rattle.atspi_marshal.specs.Reading.{input_of}
use Rattle.atspi_marshal_in_place.specs.Items.{item_data, item_kind}
use Rattle.atspi_message_in_place.proofs.ReadTypes.{item_type}
use Rattle.atspi_reader_news.proofs.Told.{differs, no_role_seen}
use Rattle.atspi_reader_news.proofs.event.role_of.Goals as goal

pub returns-in_err-role : goal.returns-in_err-role
returns-in_err-role c =
    let x = c.args.value in
    c.from_residual.ensures
    ∙ no_role_seen (item_data x) (differs (item_data x) (item_kind x) (number u32) (item_type (input_of x.input) x.levels (item_kind x) x.bound x.at x.known) (λ t. let clash = c.in_default.ensures.is.1 t in absurd cc))
    (differs (item_data x) (item_kind x) (number i32) (item_type (input_of x.input) x.levels (item_kind x) x.bound x.at x.known) (λ t. let clash = c.in_err-role.ensures.is.1 t in absurd cc))
