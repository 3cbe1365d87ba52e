use Rattle.std.proofs.Common.{sym, ap, subst, None}
use Rattle.atspi_marshal_in_place.specs.Items.{item_data, fields_data}
use Rattle.atspi_protocol.specs.members.Arguments.{value_in}
use Rattle.atspi_app_calls.specs.reading.Arguments.{IsSigned}
use Rattle.atspi_app_calls.proofs.OfReading.Reading.{third_is, no_first}
use Rattle.atspi_app_calls.proofs.reading.arguments.third_set_signed.Goals as goal

pub returns-in-Some : goal.returns-in-Some
returns-in-Some c =
    subst (IsSigned c.second_set_signed.result) (sym (ap value_in (third_is (fields_data c.args.args) (fields_data c.next.new.self) (item_data c.in-Some.field-0) c.in-Some.ensures.comes))) c.second_set_signed.ensures

pub returns-in-None : goal.returns-in-None
returns-in-None c = subst (IsSigned None) (sym (ap value_in (no_first (fields_data c.args.args) 2 c.in-None.ensures.comes.0))) tt
