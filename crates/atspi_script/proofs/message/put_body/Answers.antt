use Rattle.std.proofs.Common.{◌≡◌, [], ◌++◌, List, ℕ, true, codes, sym, ap, ◌∙◌}
use Rattle.atspi_types.specs.Kinds.{Kind, kinds_of}
use Rattle.atspi_types.specs.Data.{items_of, types_of}
use Rattle.atspi_types.specs.Signatures.{signature_bytes}
use Rattle.atspi_marshal.specs.Reading.{input_of}
use Rattle.atspi_marshal_in_place.specs.Items.{fields_data, fields_kinds}
use Rattle.atspi_script.proofs.MessageLemmas.{body_written, no_body}
use Rattle.atspi_message_in_place.proofs.ReadTypes.{fields_types, no_types, some_types}
use Rattle.atspi_script.proofs.TextLemmas.{front_kept}
use Rattle.atspi_script.proofs.message.put_body.Goals as goal

pub returns-then-is_empty-clause-ok : goal.returns-then-is_empty-clause-ok
returns-then-is_empty-clause-ok c =
    let body = c.args.body in
    let types : types_of (items_of (fields_data body)) ≡ kinds_of (fields_kinds body) = fields_types (input_of body.input) body.levels (fields_kinds body) body.bound body.at body.known in
    let none : fields_kinds body ≡ [] = sym c.types-types.ensures ∙ c.is_empty.ensures.0 c.if-is_empty.true in
    no_body (fields_data body) c.args.out.now (no_types (fields_data body) (fields_kinds body) types none)

pub returns-clause-ok : goal.returns-clause-ok
returns-clause-ok c =
    let body = c.args.body in
    let types : types_of (items_of (fields_data body)) ≡ kinds_of (fields_kinds body) = fields_types (input_of body.input) body.levels (fields_kinds body) body.bound body.at body.known in
    let some : fields_kinds body ≡ [] → ⊥ = λ e. (let yes : c.is_empty.result ≡ true = c.is_empty.ensures.1 (c.types-types.ensures ∙ e) in cc) in
    let spelled : c.codes.result.now ≡ signature_bytes (types_of (items_of (fields_data body))) =
    c.codes.ensures.spelled ∙ ap (λ (ks : List Kind). signature_bytes (kinds_of ks)) c.types-types.ensures ∙ sym (ap signature_bytes types)
    in
    body_written (fields_data body) c.args.out.now c.extend.new.self c.extend-2.new.self c.extend-3.new.self c.put_fields.new.out c.push.new.self (some_types (fields_data body) (fields_kinds body) types some) c.in_ok-extend.ensures.ok
    (c.in_ok-extend-2.ensures.ok ∙ ap (λ (bs : List ℕ). c.extend.new.self ++ bs) spelled) c.in_ok-extend-3.ensures.ok c.in_ok-put_fields.ensures.ok c.in_ok-push.ensures.ok

pub returns-in_err-put_fields-clause-front : goal.returns-in_err-put_fields-clause-front
returns-in_err-put_fields-clause-front c =
    front_kept c.args.out.now (codes " signature=") c.extend.new.self c.put_fields.new.out c.in_ok-extend.ensures.ok
    (front_kept c.extend.new.self c.codes.result.now c.extend-2.new.self c.put_fields.new.out c.in_ok-extend-2.ensures.ok
    (front_kept c.extend-2.new.self (codes " [") c.extend-3.new.self c.put_fields.new.out c.in_ok-extend-3.ensures.ok c.put_fields.ensures.front))
