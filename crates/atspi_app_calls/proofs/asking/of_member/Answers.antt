use Rattle.std.proofs.Common.{subst, chars, sym, ap, ◌∙◌}
use Rattle.atspi_marshal_in_place.specs.Items.{fields_data}
use Rattle.atspi_protocol.specs.members.Arguments.{text_at}
use Rattle.atspi_protocol.specs.members.Asked.{pieces_asked, property_of}
use Rattle.atspi_protocol.specs.members.Granularity.{grain_of}
use Rattle.atspi_app_calls.specs.Object.{object_of}
use Rattle.atspi_app_calls.specs.inner.Ask.{IsFound}
use Rattle.atspi_app_calls.proofs.asking.of_member.Goals as goal

pub returns-in-GetStringAtOffset : goal.returns-in-GetStringAtOffset
returns-in-GetStringAtOffset c =
    let body = fields_data c.args.m.now.body in
    rw c.in-GetStringAtOffset.is
    (ap (λ n. pieces_asked body (grain_of n)) (sym c.second_unsigned.ensures) ∙ ap (pieces_asked body) (sym c.grain_of.ensures) ∙ c.pieces.ensures body)

pub returns-in-Get : goal.returns-in-Get
returns-in-Get c =
    let o = object_of c.args.object in
    let body = fields_data c.args.m.now.body in
    let first = subst (λ x. IsFound c.property.result (property_of o x (chars c.second_text.result.now))) c.first_text.ensures c.property.ensures in
    let found = subst (λ x. IsFound c.property.result (property_of o (text_at 0 body) x)) c.second_text.ensures first in
    rw c.in-Get.is (c.getting.ensures (property_of o (text_at 0 body) (text_at 1 body)) body found)
