use Rattle.std.proofs.Common.{ℕ, ◌+◌, ◌++◌, subst}
use Rattle.atspi_marshal.specs.Input.{aligned}
use Rattle.atspi_marshal.specs.Spelling.{counted}
use Rattle.atspi_marshal.specs.Writing.{Writes}
use Rattle.atspi_message.specs.Codes.{number_of}
use Rattle.atspi_message.specs.inner.Writing.{field_front}
use Rattle.atspi_message.proofs.FieldWriting.{name_writes, number_small}
use Rattle.atspi_message_forwarding.specs.inner.Fields.{code_for}
use Rattle.atspi_message_forwarding.proofs.Passing.{name_rule}
use Rattle.atspi_message_forwarding.proofs.fields.put_name.Goals as goal

pub returns-in-Some : goal.returns-in-Some
returns-in-Some c =
    let code = code_for c.args.field in
    let rule = name_rule c.args.field c.in-Some.text.now (rw c.in-Some.is at c.requires.named) in
    let writes = subst (λ (n : ℕ). Writes (Unit {0}) (field_front c.args.at n 115 ++ counted c.args.order (aligned 8 c.args.at + 4) c.as_bytes.result.now) c.args.at c.args.out.now c.put_text.new.out c.put_text.result) c.number_of.ensures c.put_text.ensures.writes in
    rw c.in-Some.is (record {
      writes = name_writes code c.args.order c.args.at (number_of code) c.in-Some.text.now c.as_bytes.result.now c.args.out.now c.put_text.new.out c.put_text.result (number_small code) c.as_bytes.ensures.value rule writes;
      front = c.put_text.ensures.front;
    })
