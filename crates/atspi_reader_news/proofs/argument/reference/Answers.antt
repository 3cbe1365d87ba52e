use Rattle.std.proofs.Common.{◌∙◌, Some, chars, sym, ap}
use Rattle.atspi_marshal.specs.Reading.{input_of}
use Rattle.atspi_marshal_in_place.specs.Items.{item_data, item_kind, fields_data}
use Rattle.atspi_message_in_place.proofs.ReadTypes.{item_type}
use Rattle.atspi_protocol.specs.news.Arguments.{then_path, then_end}
use Rattle.atspi_reader_news.specs.Seen.{reference_seen}
use Rattle.atspi_reader_news.proofs.Came.{no_structure, in_fields, read_text, read_path}
use Rattle.atspi_reader_news.proofs.argument.reference.Goals as goal

pub returns-in_err-fields : goal.returns-in_err-fields
returns-in_err-fields c =
    let x = c.args.value in
    no_structure c.from_residual.result reference_seen (item_data x) (item_kind x) c.from_residual.ensures (item_type (input_of x.input) x.levels (item_kind x) x.bound x.at x.known) (λ a. let clash = c.in_err-fields.ensures.is.1 a in absurd cc)

pub returns-in-None : goal.returns-in-None
returns-in-None c =
    let d = item_data c.args.value in
    let f0 = fields_data c.in_ok-fields.fields in
    let f1 = fields_data c.next_text.new.fields in
    let f2 = fields_data c.next_path.new.fields in
    sym (in_fields d f0 c.in_ok-fields.ensures.fields ∙ read_text (λ bus. then_path (λ path. then_end (record { bus = bus; path = path }))) (Some c.in_ok-bus.bus) f0 f1 c.in_ok-bus.ensures.comes
    ∙ read_path (λ path. then_end (record { bus = chars c.in_ok-bus.bus.now; path = path })) (Some c.in_ok-path.path) f1 f2 c.in_ok-path.ensures.comes
    ∙ ap (then_end (record { bus = chars c.in_ok-bus.bus.now; path = c.in_ok-path.path.now })) c.in-None.ensures.comes.0)

pub returns-in-Some : goal.returns-in-Some
returns-in-Some c =
    let d = item_data c.args.value in
    let f0 = fields_data c.in_ok-fields.fields in
    let f1 = fields_data c.next_text.new.fields in
    let f2 = fields_data c.next_path.new.fields in
    sym (in_fields d f0 c.in_ok-fields.ensures.fields ∙ read_text (λ bus. then_path (λ path. then_end (record { bus = bus; path = path }))) (Some c.in_ok-bus.bus) f0 f1 c.in_ok-bus.ensures.comes
    ∙ read_path (λ path. then_end (record { bus = chars c.in_ok-bus.bus.now; path = path })) (Some c.in_ok-path.path) f1 f2 c.in_ok-path.ensures.comes
    ∙ ap (then_end (record { bus = chars c.in_ok-bus.bus.now; path = c.in_ok-path.path.now })) c.in-Some.ensures.comes)
