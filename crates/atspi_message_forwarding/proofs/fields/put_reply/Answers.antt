use Rattle.atspi_marshal.proofs.WritingLists.{front_behind}
use Rattle.atspi_message.proofs.FieldWriting.{reply_writes}
use Rattle.atspi_message_forwarding.proofs.fields.put_reply.Goals as goal

pub returns-in_ok-place-in-Some : goal.returns-in_ok-place-in-Some
returns-in_ok-place-in-Some c =
    rw c.in-Some.is (record {
      writes = reply_writes c.args.order c.args.at c.in_ok-place-in-Some.place c.in-Some.serial c.args.out.now c.put_code.new.out c.put_u32.new.out c.put_u32.result c.in_ok-place-in-Some.ensures.writes c.put_u32.ensures.writes;
      front = front_behind c.args.out.now c.put_code.new.out c.put_u32.new.out c.in_ok-place-in-Some.ensures.front c.put_u32.ensures.front;
    })
