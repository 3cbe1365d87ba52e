use Rattle.std.proofs.Common.{sym, ap, ◌∙◌}
use Rattle.atspi_marshal_in_place.specs.Items.{item_data, fields_data}
use Rattle.atspi_protocol.specs.members.Arguments.{unsigned_in}
use Rattle.atspi_app_calls.proofs.OfReading.Reading.{second_is}
use Rattle.atspi_app_calls.proofs.reading.arguments.second_unsigned.Goals as goal

pub returns-in-Some : goal.returns-in-Some
returns-in-Some c =
    c.first_unsigned.ensures ∙ sym (ap unsigned_in (second_is (fields_data c.args.args) (fields_data c.next.new.self) (item_data c.in-Some.field-0) c.in-Some.ensures.comes))
