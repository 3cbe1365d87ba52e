use Rattle.std.proofs.Common.{◌≡◌, ◌<◌, ◌∙◌, length, ap, sym}
use Rattle.atspi_types.specs.Kinds.{kinds_of}
use Rattle.atspi_types.specs.Data.{items_of, types_of}
use Rattle.atspi_types.specs.Signatures.{signature_bytes}
use Rattle.atspi_marshal_in_place.specs.codes.TyRefs.{refs_kinds}
use Rattle.atspi_marshal_in_place.specs.Items.{fields_data}
use Rattle.atspi_message_in_place.proofs.ReadTypes.{some_types}
use Rattle.atspi_message.specs.Length.{told}
use Rattle.atspi_message_forwarding.proofs.Passing.{not_both, body_types, no_types_end, some_types_end}
use Rattle.atspi_message_forwarding.proofs.length.types_end.Goals as goal

pub returns-then-is_empty : goal.returns-then-is_empty
returns-then-is_empty c = λ place is.
    let body = c.args.body in
    let js = refs_kinds c.types-types.result in
    let types : types_of (items_of (fields_data body)) ≡ kinds_of js = body_types body ∙ ap kinds_of (sym c.types-types.ensures) in
    is ∙ ap told (no_types_end place (fields_data body) (types ∙ ap kinds_of (c.is_empty.ensures.0 c.if-is_empty.true)))

pub returns : goal.returns
returns c = λ place is.
    let body = c.args.body in
    let ds = fields_data body in
    let js = refs_kinds c.types-types.result in
    let types : types_of (items_of ds) ≡ kinds_of js = body_types body ∙ ap kinds_of (sym c.types-types.ensures) in
    let some : 0 < length ds = some_types ds js types (λ none. not_both c.is_empty.result (c.is_empty.ensures.1 none) c.if-is_empty.false) in
    c.behind-2.ensures _ (c.behind.ensures _ (c.at_eight.ensures place is))
    ∙ ap told (some_types_end place ds c.codes.result.now some (c.codes.ensures.spelled ∙ ap signature_bytes (sym types)))
