use Rattle.std.proofs.Common.{◌∙◌, arith}
use Rattle.atspi_message.specs.declared.code.Code.TheVariants as codes
use Rattle.atspi_message.proofs.FieldWriting.{name_writes}
use Rattle.atspi_message.proofs.writing.fields.put_member.Goals as goal

pub returns-in-Some-clause-puts : goal.returns-in-Some-clause-puts
returns-in-Some-clause-puts c =
    let same = c.as_bytes.ensures.value ∙ c.as_str.ensures.bytes in
    rw c.in-Some.is (record {
      writes = name_writes codes.Member c.args.order c.args.at 3 _ c.as_bytes.result.now c.args.out.now c.put_text.new.out c.put_text.result (omega arith) same c.as_str.ensures.rule c.put_text.ensures.writes;
      front = c.put_text.ensures.front;
    })
