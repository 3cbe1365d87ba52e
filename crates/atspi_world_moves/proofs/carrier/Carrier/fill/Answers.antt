use Rattle.std.proofs.Common.{sym, arith}
use Rattle.atspi_bus_steps.specs.InnerBus.{inner_of}
use Rattle.atspi_world_moves.proofs.Beginning.{gave_none}
use Rattle.atspi_world_moves.proofs.Coming.{none_there, one_there, some_there}
use Rattle.atspi_world_moves.proofs.carrier.Carrier.fill.Goals as goal

pub returns-then-place-len-clause-bus : goal.returns-then-place-len-clause-bus
returns-then-place-len-clause-bus c = sym (gave_none (inner_of c.args.self.now.bus) c.args.conn)

pub returns-then-place-len-clause-brings : goal.returns-then-place-len-clause-brings
returns-then-place-len-clause-brings c =
    let s = c.args.self.now in
    none_there (inner_of s.bus) s.posts.items s.at_end.items c.args.conn c.args.most (omega (arith, c.if-place-len.true, c.len.ensures))

pub returns-clause-brings : goal.returns-clause-brings
returns-clause-brings c =
    let s = c.args.self.now in
    one_there c.fill.result (inner_of s.bus) (inner_of c.fill.new.bus) s.posts.items s.at_end.items c.args.conn c.args.most c.index_mut.result.now c.fill.new.at_end c.index_mut.ensures.value c.fill.ensures.most c.fill.ensures.filled

pub returns-clause-part : goal.returns-clause-part
returns-clause-part c =
    let s = c.args.self.now in
    some_there c.fill.result (inner_of s.bus) (inner_of c.fill.new.bus) s.at_end.items c.args.conn c.index_mut.result.now c.fill.new.at_end c.index_mut.ensures.value c.fill.ensures.part
