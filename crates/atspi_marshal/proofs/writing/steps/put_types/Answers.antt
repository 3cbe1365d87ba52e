use Rattle.atspi_types.specs.Data.{items_of, types_of}
use Rattle.atspi_types.specs.DataView.{all_data}
use Rattle.atspi_types.specs.Signatures.{signature_bytes, FitsSignature}
use Rattle.atspi_marshal.specs.Spelling.{counted_short}
use Rattle.atspi_marshal.proofs.WritingSteps.{Writes-settled, err_settled, front_settled}
use Rattle.atspi_marshal.proofs.writing.steps.put_types.Goals as goal

pub returns-clause-writes : goal.returns-clause-writes
returns-clause-writes c =
    Writes-settled (FitsSignature (types_of (items_of (all_data c.args.values.now)))) (counted_short (signature_bytes (types_of (items_of (all_data c.args.values.now))))) c.args.at c.args.out.now c.put_types-written.new.out c.settled.new.out c.put_types-written.result c.settled.result c.settled.ensures.same c.settled.ensures.ok c.put_types-written.ensures.writes

pub returns-clause-front : goal.returns-clause-front
returns-clause-front c = front_settled c.len-len.result c.args.out.now c.put_types-written.new.out c.settled.new.out c.settled.result c.len-len.ensures c.put_types-written.ensures.front c.settled.ensures.ok c.settled.ensures.err

pub returns-clause-err : goal.returns-clause-err
returns-clause-err c = err_settled c.len-len.result c.args.out.now c.put_types-written.new.out c.settled.new.out c.settled.result c.len-len.ensures c.put_types-written.ensures.front c.settled.ensures.err
