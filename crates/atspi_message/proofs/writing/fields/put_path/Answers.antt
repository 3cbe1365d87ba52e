use Rattle.std.proofs.Common.{◌∙◌}
use Rattle.atspi_message.proofs.FieldWriting.{path_writes}
use Rattle.atspi_message.proofs.writing.fields.put_path.Goals as goal

pub returns-in-Some-clause-puts : goal.returns-in-Some-clause-puts
returns-in-Some-clause-puts c =
    let same = c.as_bytes.ensures.value ∙ c.as_str.ensures.bytes in
    rw c.in-Some.is (record {
      writes = path_writes c.args.order c.args.at _ c.as_bytes.result.now c.args.out.now c.put_text.new.out c.put_text.result same c.as_str.ensures.rule c.put_text.ensures.writes;
      front = c.put_text.ensures.front;
    })
