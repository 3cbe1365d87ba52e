use Rattle.std.proofs.Common.{sym, ap, ◌∙◌, true, false}
use Rattle.atspi_marshal_in_place.specs.Items.{fields_data}
use Rattle.atspi_message_in_place.specs.View.{bytes_of}
use Rattle.atspi_protocol.specs.members.Asked as asked
use Rattle.atspi_app_calls.specs.Object.{object_of}
use Rattle.atspi_app_calls.specs.inner.Lines.{lent_line}
use Rattle.atspi_app_calls.proofs.Members.{codes_are, unnamed, none_of, taken_by}
use Rattle.atspi_app_calls.proofs.member.member_of.Goals as goal

pub returns-in_default : goal.returns-in_default
returns-in_default c =
    let m = c.args.m.now in
    ap (λ o. asked.member_of (object_of c.args.object) (bytes_of m.interface) (bytes_of o) (fields_data m.body)) c.in_default.is
    ∙ unnamed c.args.object (bytes_of m.interface) (fields_data m.body) (sym c.has_named.ensures ∙ c.if-not-has_named.false)

pub returns-in_default-line_of : goal.returns-in_default-line_of
returns-in_default-line_of c =
    let m = c.args.m.now in
    ap (λ o. asked.member_of (object_of c.args.object) (bytes_of m.interface) (bytes_of o) (fields_data m.body)) c.in-Some.is
    ∙ none_of c.args.object (bytes_of m.interface) (fields_data m.body) c.in-Some.name.now (sym c.has_named.ensures ∙ c.if-not-has_named.false) (sym c.line_of.ensures ∙ ap lent_line c.in_default-line_of.is)

pub returns-then-not-are_taken : goal.returns-then-not-are_taken
returns-then-not-are_taken c =
    let m = c.args.m.now in
    let same = codes_are m.body c.types.result c.codes.result.now c.codes.ensures.spelled c.types.ensures in
    ap (λ o. asked.member_of (object_of c.args.object) (bytes_of m.interface) (bytes_of o) (fields_data m.body)) c.in-Some.is
    ∙ taken_by c.args.object (bytes_of m.interface) (fields_data m.body) c.in-Some.name.now c.in-Some-line_of.member c.in-Some-line_of.takes.now c.codes.result.now (sym c.has_named.ensures ∙ c.if-not-has_named.false)
    (sym c.line_of.ensures ∙ ap lent_line c.in-Some-line_of.is) same false (sym c.are_taken.ensures ∙ c.if-not-are_taken.true)

pub returns : goal.returns
returns c =
    let m = c.args.m.now in
    let same = codes_are m.body c.types.result c.codes.result.now c.codes.ensures.spelled c.types.ensures in
    ap (λ o. asked.member_of (object_of c.args.object) (bytes_of m.interface) (bytes_of o) (fields_data m.body)) c.in-Some.is
    ∙ taken_by c.args.object (bytes_of m.interface) (fields_data m.body) c.in-Some.name.now c.in-Some-line_of.member c.in-Some-line_of.takes.now c.codes.result.now (sym c.has_named.ensures ∙ c.if-not-has_named.false)
    (sym c.line_of.ensures ∙ ap lent_line c.in-Some-line_of.is) same true (sym c.are_taken.ensures ∙ c.if-not-are_taken.false)
