use Rattle.std.proofs.Common.{ℕ}
use Rattle.atspi_marshal.specs.Spelling.{counted}
use Rattle.atspi_message.proofs.FieldWriting.{value_behind}
use Rattle.atspi_message_forwarding.proofs.fields.put_text.Goals as goal

pub returns-clause-writes : goal.returns-clause-writes
returns-clause-writes c =
    value_behind (λ (q : ℕ). Unit {0}) (λ (q : ℕ). counted c.args.order q c.args.bytes.now) c.args.at c.args.code c.args.letter c.in_ok-place.place c.args.out.now c.put_code.new.out c.put_counted.new.out c.put_counted.result c.in_ok-place.ensures.writes c.put_counted.ensures.writes
