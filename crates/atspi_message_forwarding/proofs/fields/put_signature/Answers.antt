use Rattle.std.proofs.Common.{◌≡◌, ◌<◌, ◌∙◌, length, ap, sym}
use Rattle.std.proofs.lemmas.Result.{err_from_is_err_and}
use Rattle.atspi_types.specs.Kinds.{kinds_of}
use Rattle.atspi_types.specs.Data.{items_of, types_of}
use Rattle.atspi_marshal_in_place.specs.codes.TyRefs.{refs_kinds}
use Rattle.atspi_marshal_in_place.specs.Items.{fields_data}
use Rattle.atspi_message_in_place.proofs.ReadTypes.{some_types}
use Rattle.atspi_message.proofs.BodyTypes.{signature_puts, signature_puts_refused}
use Rattle.atspi_message_forwarding.proofs.Passing.{not_both, body_types, types_written}
use Rattle.atspi_message_forwarding.proofs.fields.put_signature.Goals as goal

pub returns : goal.returns
returns c = λ o.
    let body = c.args.body in
    let ds = fields_data body in
    let js = refs_kinds c.types-types.result in
    let types : types_of (items_of ds) ≡ kinds_of js = body_types body ∙ ap kinds_of (sym c.types-types.ensures) in
    let some : 0 < length ds = some_types ds js types (λ none. not_both c.is_empty.result (c.is_empty.ensures.1 none) c.if-is_empty.false) in
    signature_puts o c.args.at c.in_ok-place.place ds c.args.out.now c.put_code.new.out c.put_short.new.out c.put_short.result some c.requires.typed c.in_ok-place.ensures.writes c.in_ok-place.ensures.front c.put_short.ensures.front
    (types_written (types_of (items_of ds)) js c.codes.result.now c.put_code.new.out c.put_short.new.out c.in_ok-place.place c.put_short.result types c.codes.ensures.spelled c.codes.ensures.within c.put_short.ensures.writes)

pub returns-in_err-place : goal.returns-in_err-place
returns-in_err-place c = λ o.
    let body = c.args.body in
    let ds = fields_data body in
    let js = refs_kinds c.types-types.result in
    let types : types_of (items_of ds) ≡ kinds_of js = body_types body ∙ ap kinds_of (sym c.types-types.ensures) in
    let some : 0 < length ds = some_types ds js types (λ none. not_both c.is_empty.result (c.is_empty.ensures.1 none) c.if-is_empty.false) in
    let p = err_from_is_err_and c.from_residual.result c.from_residual.ensures.1 in
    rw (p.1, p.2) (signature_puts_refused o c.args.at ds c.args.out.now c.put_code.new.out c.in_err-place.field-0.0 some c.in_err-place.ensures.front c.in_err-place.ensures.writes)
