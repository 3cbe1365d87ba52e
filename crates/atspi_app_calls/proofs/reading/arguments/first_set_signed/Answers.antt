use Rattle.std.proofs.Common.{sym, ap, subst, None}
use Rattle.atspi_marshal_in_place.specs.Items.{item_data, fields_data}
use Rattle.atspi_protocol.specs.members.Arguments.{value_in}
use Rattle.atspi_app_calls.specs.reading.Arguments.{IsSigned}
use Rattle.atspi_app_calls.proofs.OfReading.Reading.{first_is, no_first}
use Rattle.atspi_app_calls.proofs.reading.arguments.first_set_signed.Goals as goal

pub returns-in-Some : goal.returns-in-Some
returns-in-Some c =
    subst (IsSigned c.set_signed_of.result) (sym (ap value_in (first_is (fields_data c.args.args) (fields_data c.next.new.self) (item_data c.in-Some.first) c.in-Some.ensures.comes))) c.set_signed_of.ensures

pub returns-in-None : goal.returns-in-None
returns-in-None c = subst (IsSigned None) (sym (ap value_in (no_first (fields_data c.args.args) 0 c.in-None.ensures.comes.0))) tt
