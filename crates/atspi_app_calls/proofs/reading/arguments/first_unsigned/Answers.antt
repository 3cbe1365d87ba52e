use Rattle.std.proofs.Common.{sym, ap, ◌∙◌}
use Rattle.atspi_marshal_in_place.specs.Items.{item_data, fields_data}
use Rattle.atspi_protocol.specs.members.Arguments.{unsigned_in}
use Rattle.atspi_app_calls.proofs.OfReading.Reading.{first_is}
use Rattle.atspi_app_calls.proofs.reading.arguments.first_unsigned.Goals as goal

pub returns-in-Some : goal.returns-in-Some
returns-in-Some c =
    c.unsigned_of.ensures ∙ sym (ap unsigned_in (first_is (fields_data c.args.args) (fields_data c.next.new.self) (item_data c.in-Some.first) c.in-Some.ensures.comes))
