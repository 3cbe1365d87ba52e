use Rattle.std.proofs.Common.{sym, ◌∙◌}
use Rattle.atspi_marshal_in_place.specs.Items.{fields_data, fields_kinds}
use Rattle.atspi_marshal.specs.Reading.{input_of}
use Rattle.atspi_message_in_place.specs.View.{envelope_at}
use Rattle.atspi_message_in_place.proofs.ReadTypes.{fields_types}
use Rattle.atspi_bus_steps.proofs.Taken.{hello-yes, nil-kinds}
use Rattle.atspi_bus_steps.proofs.taking.is_hello.Goals as goal

pub returns : goal.returns
returns c =
    let e = envelope_at c.args.m.now in
    let b = c.args.m.now.body in
    let kinds = fields_types (input_of b.input) b.levels (fields_kinds b) b.bound b.at b.known in
    hello-yes e c.is_empty.result c.if-m-ne1.false (sym c.is_text.ensures ∙ c.if-not-is_text.false) (sym c.is_text-2.ensures ∙ c.if-not-is_text-2.false)
    (sym c.is_bus_or_none.ensures ∙ c.if-not-is_bus_or_none.false)
    (nil-kinds (fields_data b) (fields_kinds b) c.is_empty.result kinds (λ t. sym c.types.ensures ∙ c.is_empty.ensures.0 t) (λ n. c.is_empty.ensures.1 (c.types.ensures ∙ n)))
