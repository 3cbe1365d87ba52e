use Rattle.std.proofs.Common.{◌++◌, codes}
use Rattle.atspi_message_in_place.specs.View.{bytes_of}
use Rattle.atspi_script.specs.MessageText.{field_words, reply_text}
use Rattle.atspi_script.proofs.MessageLemmas.{field_behind, more_words}
use Rattle.atspi_script.proofs.header.put_fields.Goals as goal

pub returns-clause-ok : goal.returns-clause-ok
returns-clause-ok c =
    let m = c.args.message.now in
    let out = c.args.out.now in
    let path = field_words (codes "path") (bytes_of m.path) in
    let interface = field_words (codes "interface") (bytes_of m.interface) in
    let member = field_words (codes "member") (bytes_of m.member) in
    let error = field_words (codes "error") (bytes_of m.error) in
    let reply = field_words (codes "reply") (reply_text m.reply) in
    let destination = field_words (codes "destination") (bytes_of m.destination) in
    let sender = field_words (codes "sender") (bytes_of m.sender) in
    let one = field_behind (codes "path") (bytes_of m.path) out c.put_name.new.out c.in_ok-put_name.ensures.ok in
    let two = more_words path interface out c.put_name.new.out c.put_name-2.new.out one (field_behind (codes "interface") (bytes_of m.interface) c.put_name.new.out c.put_name-2.new.out c.in_ok-put_name-2.ensures.ok) in
    let three = more_words (path ++ interface) member out c.put_name-2.new.out c.put_name-3.new.out two (field_behind (codes "member") (bytes_of m.member) c.put_name-2.new.out c.put_name-3.new.out c.in_ok-put_name-3.ensures.ok) in
    let four = more_words (path ++ interface ++ member) error out c.put_name-3.new.out c.put_name-4.new.out three (field_behind (codes "error") (bytes_of m.error) c.put_name-3.new.out c.put_name-4.new.out c.in_ok-put_name-4.ensures.ok) in
    let five = more_words (path ++ interface ++ member ++ error) reply out c.put_name-4.new.out c.put_reply.new.out four c.in_ok-put_reply.ensures.ok in
    let six = more_words (path ++ interface ++ member ++ error ++ reply) destination out c.put_reply.new.out c.put_name-5.new.out five (field_behind (codes "destination") (bytes_of m.destination) c.put_reply.new.out c.put_name-5.new.out c.in_ok-put_name-5.ensures.ok) in
    more_words (path ++ interface ++ member ++ error ++ reply ++ destination) sender out c.put_name-5.new.out c.put_name-6.new.out six (field_behind (codes "sender") (bytes_of m.sender) c.put_name-5.new.out c.put_name-6.new.out c.in_ok-put_name-6.ensures.ok)
