use Rattle.std.proofs.Common.{[], ◌∷◌}
use Rattle.std.specs.Fmt.{decimal}
use Rattle.atspi_types.specs.Data.{items_of}
use Rattle.atspi_marshal_in_place.specs.Items.{fields_data}
use Rattle.atspi_message_in_place.specs.View.{envelope_at}
use Rattle.atspi_script.specs.MessageText.{body_words, fields_words, order_letter, type_word}
use Rattle.atspi_script.proofs.MessageLemmas.{words_behind}
use Rattle.atspi_script.proofs.message.put_message.Goals as goal

pub returns-clause-ok : goal.returns-clause-ok
returns-clause-ok c =
    let m = c.args.message.now in
    let words = (order_letter m.order ∷ []) ∷ decimal m.flags ∷ decimal m.serial ∷ fields_words (envelope_at m) in
    words_behind (type_word m.kind) words (body_words (items_of (fields_data m.body))) c.args.out.now c.put_header.new.out c.put_body.new.out c.in_ok-put_header.ensures.ok c.in_ok-put_body.ensures.ok
