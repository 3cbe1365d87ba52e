use Rattle.atspi_base.proofs.OfValidNames.NameLemmas.{IsPath-from_test}
use Rattle.atspi_message.proofs.FieldWriting.{path_writes}
use Rattle.atspi_message_forwarding.proofs.fields.put_path.Goals as goal

pub returns-in-Some : goal.returns-in-Some
returns-in-Some c =
    let rule = IsPath-from_test c.in-Some.text.now (rw c.in-Some.is at c.requires.named) in
    rw c.in-Some.is (record {
      writes = path_writes c.args.order c.args.at c.in-Some.text.now c.as_bytes.result.now c.args.out.now c.put_text.new.out c.put_text.result c.as_bytes.ensures.value rule c.put_text.ensures.writes;
      front = c.put_text.ensures.front;
    })
