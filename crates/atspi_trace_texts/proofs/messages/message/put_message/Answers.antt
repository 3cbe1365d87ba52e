use Rattle.std.proofs.Common.{[], ◌∷◌}
use Rattle.std.specs.Fmt.{decimal}
use Rattle.atspi_types.specs.Data.{items_of}
use Rattle.atspi_types.specs.DataView.{all_data}
use Rattle.atspi_message.specs.Envelope.{envelope_of}
use Rattle.atspi_script.specs.MessageText.{body_words, fields_words, order_letter, type_word}
use Rattle.atspi_trace_texts.proofs.OfMessages.MessageLemmas.{words_behind}
use Rattle.atspi_trace_texts.proofs.messages.message.put_message.Goals as goal

pub returns-clause-ok : goal.returns-clause-ok
returns-clause-ok c =
    let m = c.args.message.now in
    let words = (order_letter m.order ∷ []) ∷ decimal m.flags ∷ decimal m.serial ∷ fields_words (envelope_of m) in
    words_behind (type_word m.kind) words (body_words (items_of (all_data m.body))) c.args.out.now c.put_header.new.out c.put_body.new.out c.in_ok-put_header.ensures.ok c.in_ok-put_body.ensures.ok
