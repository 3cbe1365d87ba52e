use Rattle.atspi_marshal.proofs.WritingSteps.{array_front, Writes-settled, err_settled, front_settled}
use Rattle.atspi_marshal.proofs.writing.steps.begin_array.Goals as goal

pub returns-clause-writes : goal.returns-clause-writes
returns-clause-writes c =
    Writes-settled (Unit {0}) (array_front c.args.align c.args.at) c.args.at c.args.out.now c.begin_array-written.new.out c.settled.new.out c.begin_array-written.result c.settled.result c.settled.ensures.same c.settled.ensures.ok c.begin_array-written.ensures.writes

pub returns-clause-front : goal.returns-clause-front
returns-clause-front c = front_settled c.len-len.result c.args.out.now c.begin_array-written.new.out c.settled.new.out c.settled.result c.len-len.ensures c.begin_array-written.ensures.front c.settled.ensures.ok c.settled.ensures.err

pub returns-clause-err : goal.returns-clause-err
returns-clause-err c = err_settled c.len-len.result c.args.out.now c.begin_array-written.new.out c.settled.new.out c.settled.result c.len-len.ensures c.begin_array-written.ensures.front c.settled.ensures.err
