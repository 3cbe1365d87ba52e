use Rattle.std.proofs.Common.{◌<◌, ◌^◌, ◌++◌}
use Rattle.std.specs.Int.{w32}
use Rattle.atspi_marshal.specs.Input.{number_bytes}
use Rattle.atspi_marshal.specs.Spelling.{padding}
use Rattle.atspi_marshal.proofs.WritingSteps.{Writes-settled, err_settled, front_settled}
use Rattle.atspi_marshal.proofs.writing.steps.put_u32.Goals as goal

pub returns-clause-writes : goal.returns-clause-writes
returns-clause-writes c =
    Writes-settled (c.args.number < 2 ^ 32) (padding 4 c.args.at ++ number_bytes c.args.order w32 c.args.number) c.args.at c.args.out.now c.put_u32-written.new.out c.settled.new.out c.put_u32-written.result c.settled.result c.settled.ensures.same c.settled.ensures.ok c.put_u32-written.ensures.writes

pub returns-clause-front : goal.returns-clause-front
returns-clause-front c = front_settled c.len-len.result c.args.out.now c.put_u32-written.new.out c.settled.new.out c.settled.result c.len-len.ensures c.put_u32-written.ensures.front c.settled.ensures.ok c.settled.ensures.err

pub returns-clause-err : goal.returns-clause-err
returns-clause-err c = err_settled c.len-len.result c.args.out.now c.put_u32-written.new.out c.settled.new.out c.settled.result c.len-len.ensures c.put_u32-written.ensures.front c.settled.ensures.err
