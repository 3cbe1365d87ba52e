use Rattle.std.proofs.Common.{sym, ◌∙◌, true, false}
use Rattle.atspi_marshal_in_place.specs.Items.{fields_data}
use Rattle.atspi_message_in_place.specs.View.{bytes_of}
use Rattle.atspi_registry.proofs.OfCalls.Members.{codes_are, taken_by}
use Rattle.atspi_registry.proofs.calls.member.member_of.Goals as goal

pub returns-then-not-are_taken-clause-member : goal.returns-then-not-are_taken-clause-member
returns-then-not-are_taken-clause-member c =
    let m = c.args.m.now in
    let same = codes_are m.body c.types.result c.codes.result.now c.codes.ensures.spelled c.types.ensures in
    taken_by c.args.object (bytes_of m.interface) (bytes_of m.member) (fields_data m.body) c.in-Some.member c.codes.result.now (sym c.has_named.ensures ∙ c.if-not-has_named.false) (sym c.found.ensures.member ∙ c.in-Some.is) same false (sym c.are_taken.ensures ∙ c.if-not-are_taken.true)

pub returns-clause-member : goal.returns-clause-member
returns-clause-member c =
    let m = c.args.m.now in
    let same = codes_are m.body c.types.result c.codes.result.now c.codes.ensures.spelled c.types.ensures in
    taken_by c.args.object (bytes_of m.interface) (bytes_of m.member) (fields_data m.body) c.in-Some.member c.codes.result.now (sym c.has_named.ensures ∙ c.if-not-has_named.false) (sym c.found.ensures.member ∙ c.in-Some.is) same true (sym c.are_taken.ensures ∙ c.if-not-are_taken.false)
