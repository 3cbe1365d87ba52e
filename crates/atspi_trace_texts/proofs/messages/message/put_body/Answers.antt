use Rattle.std.proofs.Common.{arith}
use Rattle.atspi_types.specs.DataView.{all_data}
use Rattle.atspi_trace_texts.proofs.OfMessages.MessageLemmas.{body_written}
use Rattle.atspi_trace_texts.proofs.messages.message.put_body.Goals as goal

pub returns-clause-ok : goal.returns-clause-ok
returns-clause-ok c =
    body_written (all_data c.args.body.now) c.args.out.now c.extend.new.self c.write_types.new.out c.extend-2.new.self c.put_values.new.out c.push.new.self (omega arith) c.in_ok-extend.ensures.ok c.in_ok-write_types.ensures.ok c.in_ok-extend-2.ensures.ok c.in_ok-put_values.ensures.ok c.in_ok-push.ensures.ok
