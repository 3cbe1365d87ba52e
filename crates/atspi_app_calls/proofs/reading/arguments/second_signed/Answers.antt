use Rattle.std.proofs.Common.{sym, ap, ◌∙◌, rules, w32, SFits}
use Rattle.std.proofs.lemmas.Int.{to_z-of_z}
use Rattle.atspi_marshal_in_place.specs.Items.{item_data, fields_data}
use Rattle.atspi_protocol.specs.members.Arguments.{signed_in}
use Rattle.atspi_app_calls.proofs.OfReading.Reading.{second_is}
use Rattle.atspi_app_calls.proofs.reading.arguments.second_signed.Goals as goal

pub returns-in-Some : goal.returns-in-Some
returns-in-Some c =
    let fits : SFits w32 c.first_signed.result = search rules in
    to_z-of_z w32 c.first_signed.result fits ∙ c.first_signed.ensures ∙ sym (ap signed_in (second_is (fields_data c.args.args) (fields_data c.next.new.self) (item_data c.in-Some.field-0) c.in-Some.ensures.comes))
