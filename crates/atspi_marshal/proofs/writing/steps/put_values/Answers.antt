use Rattle.atspi_types.specs.Data.{items_of, types_of}
use Rattle.atspi_types.specs.DataView.{all_data}
use Rattle.atspi_marshal.specs.Spelling.{spellings, FieldsFit}
use Rattle.atspi_marshal.proofs.WritingSteps.{Writes-settled, err_settled, front_settled}
use Rattle.atspi_marshal.proofs.writing.steps.put_values.Goals as goal

pub returns-clause-writes : goal.returns-clause-writes
returns-clause-writes c =
    let ds = items_of (all_data c.args.values.now) in
    Writes-settled (FieldsFit c.args.order c.args.levels c.args.at ds (types_of ds)) (spellings c.args.order c.args.at ds) c.args.at c.args.out.now c.put_values-written.new.out c.settled.new.out c.put_values-written.result c.settled.result c.settled.ensures.same c.settled.ensures.ok c.put_values-written.ensures.writes

pub returns-clause-front : goal.returns-clause-front
returns-clause-front c = front_settled c.len-len.result c.args.out.now c.put_values-written.new.out c.settled.new.out c.settled.result c.len-len.ensures c.put_values-written.ensures.front c.settled.ensures.ok c.settled.ensures.err

pub returns-clause-err : goal.returns-clause-err
returns-clause-err c = err_settled c.len-len.result c.args.out.now c.put_values-written.new.out c.settled.new.out c.settled.result c.len-len.ensures c.put_values-written.ensures.front c.settled.ensures.err
