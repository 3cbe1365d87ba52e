use Rattle.std.proofs.Common.{◌≡◌, sym, ap, ◌∙◌, cond, true, false, List, ℕ}
use Rattle.std.specs.Prelude.{bytes_eq, codes, Ok, Err}
use Rattle.atspi_types.specs.Kinds.{Kind, kinds_of}
use Rattle.atspi_types.specs.Signatures.{signature_bytes}
use Rattle.atspi_message_in_place.specs.View.{envelope_at}
use Rattle.atspi_match.specs.routing.Members.{signature_of}
use Rattle.atspi_bus_answers.specs.Lines.{takes_of}
use Rattle.atspi_bus_answers.proofs.Asked.{has_member, body_codes}
use Rattle.atspi_bus_answers.proofs.member.member_of.Goals as goal

pub returns-then-not-is : goal.returns-then-not-is
returns-then-not-is c =
    let b = c.args.m.now.body in
    let member = c.in-Some.member in
    let sig = body_codes b b.known ∙ ap (λ (ks : List Kind). signature_bytes (kinds_of ks)) (sym c.types.ensures) ∙ sym c.codes.ensures.spelled in
    has_member (envelope_at c.args.m.now) member (sym c.is_known.ensures ∙ c.if-not-is_known.false) (sym c.in-Some.ensures)
    ∙ ap (λ t. cond t (Ok member) (Err (codes "InvalidArgs")))
    (ap (λ (s : List ℕ). bytes_eq s (takes_of member)) sig ∙ ap (bytes_eq c.codes.result.now) (sym c.takes.ensures) ∙ sym c.is.ensures ∙ c.if-not-is.true)

pub returns : goal.returns
returns c =
    let b = c.args.m.now.body in
    let member = c.in-Some.member in
    let sig = body_codes b b.known ∙ ap (λ (ks : List Kind). signature_bytes (kinds_of ks)) (sym c.types.ensures) ∙ sym c.codes.ensures.spelled in
    has_member (envelope_at c.args.m.now) member (sym c.is_known.ensures ∙ c.if-not-is_known.false) (sym c.in-Some.ensures)
    ∙ ap (λ t. cond t (Ok member) (Err (codes "InvalidArgs")))
    (ap (λ (s : List ℕ). bytes_eq s (takes_of member)) sig ∙ ap (bytes_eq c.codes.result.now) (sym c.takes.ensures) ∙ sym c.is.ensures ∙ c.if-not-is.false)
