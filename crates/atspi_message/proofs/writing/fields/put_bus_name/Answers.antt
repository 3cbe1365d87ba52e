use Rattle.std.proofs.Common.{◌∙◌}
use Rattle.atspi_message.specs.declared.code.Code.TheVariants as codes
use Rattle.atspi_message.specs.Codes.{number_of}
use Rattle.atspi_message.proofs.FieldWriting.{name_writes, number_small}
use Rattle.atspi_message.proofs.writing.fields.put_bus_name.Goals as goal

pub returns-in-Some-clause-puts : goal.returns-in-Some-clause-puts
returns-in-Some-clause-puts c =
    let same = c.as_bytes.ensures.value ∙ c.as_str.ensures.bytes in
    rw c.in-Some.is (record {
      writes = name_writes codes.Destination c.args.order c.args.at (number_of c.args.code) _ c.as_bytes.result.now c.args.out.now c.put_text.new.out c.put_text.result (number_small c.args.code) same c.as_str.ensures.rule c.put_text.ensures.writes;
      front = c.put_text.ensures.front;
    })
