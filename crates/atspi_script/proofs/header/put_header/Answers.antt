use Rattle.std.proofs.Common.{[], ◌∷◌, ◌++◌, ◌∙◌, append_assoc, refl, sym}
use Rattle.std.specs.Fmt.{decimal}
use Rattle.std.specs.List.{flat_map}
use Rattle.atspi_message_in_place.specs.View.{envelope_at}
use Rattle.atspi_script.specs.Spaced.{behind_space}
use Rattle.atspi_script.specs.MessageText.{fields_words, order_letter, type_word}
use Rattle.atspi_script.proofs.MessageLemmas.{front_written, header_written}
use Rattle.atspi_script.proofs.TextLemmas.{front_kept}
use Rattle.atspi_script.proofs.header.put_header.Goals as goal

pub returns-clause-ok : goal.returns-clause-ok
returns-clause-ok c =
    let m = c.args.message.now in
    let out = c.args.out.now in
    let letter = order_letter m.order in
    let front = front_written letter (type_word m.kind) (decimal m.flags) (decimal m.serial) out (out ++ type_word m.kind) c.put_front.new.out c.put_number.new.out c.push.new.self c.put_number-2.new.out refl (c.in_ok-put_front.ensures.ok ∙ sym (append_assoc out (type_word m.kind) (32 ∷ letter ∷ 32 ∷ []))) c.in_ok-put_number.ensures.ok c.in_ok-push.ensures.ok c.in_ok-put_number-2.ensures.ok in
    header_written letter (type_word m.kind) (decimal m.flags) (decimal m.serial) (flat_map behind_space (fields_words (envelope_at m))) out c.put_number-2.new.out c.put_fields.new.out front c.in_ok-put_fields.ensures.ok

pub returns-in_err-put_fields-clause-front : goal.returns-in_err-put_fields-clause-front
returns-in_err-put_fields-clause-front c =
    let m = c.args.message.now in
    let out = c.args.out.now in
    let letter = order_letter m.order in
    let front = front_written letter (type_word m.kind) (decimal m.flags) (decimal m.serial) out (out ++ type_word m.kind) c.put_front.new.out c.put_number.new.out c.push.new.self c.put_number-2.new.out refl (c.in_ok-put_front.ensures.ok ∙ sym (append_assoc out (type_word m.kind) (32 ∷ letter ∷ 32 ∷ []))) c.in_ok-put_number.ensures.ok c.in_ok-push.ensures.ok c.in_ok-put_number-2.ensures.ok in
    front_kept out (type_word m.kind ++ 32 ∷ letter ∷ 32 ∷ (decimal m.flags ++ 32 ∷ decimal m.serial)) c.put_number-2.new.out c.put_fields.new.out front c.put_fields.ensures.front
