use Rattle.std.proofs.Common.{sym, ap, ◌∙◌, rules, w32, SFits}
use Rattle.std.proofs.lemmas.Int.{to_z-of_z}
use Rattle.atspi_marshal_in_place.specs.Items.{item_data, fields_data}
use Rattle.atspi_protocol.specs.members.Arguments.{signed_in}
use Rattle.atspi_registry.proofs.OfCalls.Reading.{first_is}
use Rattle.atspi_registry.proofs.calls.arguments.first_signed.Goals as goal

pub returns-in-Some : goal.returns-in-Some
returns-in-Some c =
    let fits : SFits w32 c.signed_of.result = search rules in
    to_z-of_z w32 c.signed_of.result fits ∙ c.signed_of.ensures ∙ sym (ap signed_in (first_is (fields_data c.args.args) (fields_data c.next.new.self) (item_data c.in-Some.first) c.in-Some.ensures.comes))
