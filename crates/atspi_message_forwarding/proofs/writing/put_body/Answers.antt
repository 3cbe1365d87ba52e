use Rattle.atspi_marshal_in_place.specs.Items.{fields_data}
use Rattle.atspi_message_forwarding.proofs.Passing.{body_written}
use Rattle.atspi_message_forwarding.proofs.writing.put_body.Goals as goal

pub returns-clause-writes : goal.returns-clause-writes
returns-clause-writes c =
    let m = c.args.m.now in
    body_written m.order c.args.place (fields_data m.body) m.body_bytes.now c.args.out.now c.put_padded.new.out c.put_padded.result m.lies c.requires.even c.put_padded.ensures.writes
