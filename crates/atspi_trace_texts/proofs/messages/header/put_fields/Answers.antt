use Rattle.std.proofs.Common.{◌++◌, codes}
use Rattle.atspi_script.specs.MessageText.{field_words, reply_text}
use Rattle.atspi_trace_texts.proofs.OfMessages.MessageLemmas.{more_words}
use Rattle.atspi_trace_texts.proofs.messages.header.put_fields.Goals as goal

pub returns-clause-ok : goal.returns-clause-ok
returns-clause-ok c =
    let m = c.args.message.now in
    let out = c.args.out.now in
    let path = field_words (codes "path") m.path in
    let interface = field_words (codes "interface") m.interface in
    let member = field_words (codes "member") m.member in
    let error = field_words (codes "error") m.error in
    let reply = field_words (codes "reply") (reply_text m.reply) in
    let destination = field_words (codes "destination") m.destination in
    let sender = field_words (codes "sender") m.sender in
    let two = more_words path interface out c.put_path.new.out c.put_interface.new.out c.in_ok-put_path.ensures.ok c.in_ok-put_interface.ensures.ok in
    let three = more_words (path ++ interface) member out c.put_interface.new.out c.put_member.new.out two c.in_ok-put_member.ensures.ok in
    let four = more_words (path ++ interface ++ member) error out c.put_member.new.out c.put_error.new.out three c.in_ok-put_error.ensures.ok in
    let five = more_words (path ++ interface ++ member ++ error) reply out c.put_error.new.out c.put_reply.new.out four c.in_ok-put_reply.ensures.ok in
    let six = more_words (path ++ interface ++ member ++ error ++ reply) destination out c.put_reply.new.out c.put_destination.new.out five c.in_ok-put_destination.ensures.ok in
    more_words (path ++ interface ++ member ++ error ++ reply ++ destination) sender out c.put_destination.new.out c.put_sender.new.out six c.in_ok-put_sender.ensures.ok
