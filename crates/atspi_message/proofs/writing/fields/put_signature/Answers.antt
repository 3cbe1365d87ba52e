use Rattle.std.proofs.Common.{◌<◌, length, arith}
use Rattle.atspi_types.specs.DataView.{all_data}
use Rattle.atspi_message.proofs.BodyTypes.{signature_puts}
use Rattle.atspi_message.proofs.writing.fields.put_signature.Goals as goal

pub returns : goal.returns
returns c = λ o.
    let some : 0 < length (all_data c.args.body.now) = omega (arith, c.len.ensures, c.if-len-eq0.false) in
    signature_puts o c.args.at c.in_ok-place.place (all_data c.args.body.now) c.args.out.now c.put_code.new.out c.put_types.new.out c.put_types.result some c.requires.typed c.in_ok-place.ensures.writes c.in_ok-place.ensures.front c.put_types.ensures.front c.put_types.ensures.writes
