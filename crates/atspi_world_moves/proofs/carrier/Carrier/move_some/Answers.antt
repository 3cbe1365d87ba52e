use Rattle.std.proofs.Common.{Err, refl, ap, arith}
use Rattle.atspi_bus_steps.specs.InnerBus.{inner_of}
use Rattle.atspi_world_moves.specs.declared.fault.CarryFault.TheVariants.{Spent, RegistryLost}
use Rattle.atspi_world_moves.proofs.Rounds.{no_post, nothing_lacks, lack_none, few_moved, first_lost, first_spent, one_completed}
use Rattle.atspi_world_moves.proofs.Stopping.{same_fault}
use Rattle.atspi_world_moves.proofs.carrier.Carrier.move_some.Goals as goal

pub returns-then-place-len-clause-moves : goal.returns-then-place-len-clause-moves
returns-then-place-len-clause-moves c =
    let s = c.args.self.now in
    no_post c.args.conn c.args.most (inner_of s.bus) s.posts.items s.at_end.items s.trace.items (omega (arith, c.if-place-len.true, c.len.ensures))

pub returns-in_default-clause-moves : goal.returns-in_default-clause-moves
returns-in_default-clause-moves c =
    let s = c.args.self.now in
    nothing_lacks c.args.conn c.args.most (inner_of s.bus) s.posts.items c.index.result.now s.at_end.items s.trace.items c.index.ensures (lack_none c.index.result.now c.lacking.result c.in_default.not-Some c.lacking.ensures.exact)

pub returns-then-most-lacking-clause-moves : goal.returns-then-most-lacking-clause-moves
returns-then-most-lacking-clause-moves c =
    let s = c.args.self.now in
    few_moved c.args.conn c.args.most c.in-Some.lacking (inner_of s.bus) s.posts.items c.index.result.now c.index_mut-post.result.now _ c.saturating_add-post.result s.at_end.items s.trace.items c.index.ensures c.index_mut-post.ensures.value
    c.in-Some.ensures.exact (let room = c.in-Some.ensures.room in omega (arith, room (omega (arith, c.if-most-lacking.true)))) c.if-most-lacking.true c.saturating_add-post.ensures refl

pub returns-clause-moves : goal.returns-clause-moves
returns-clause-moves c =
    let s = c.args.self.now in
    one_completed c.args.conn c.args.most c.in-Some.lacking (inner_of s.bus) (inner_of c.route_apart.new.self.bus) s.posts.items c.route_apart.new.self.posts.items c.index.result.now s.at_end.items
    c.route_apart.new.self.at_end.items s.trace.items c.route_apart.new.self.trace.items c.index.ensures c.in-Some.ensures.exact c.if-most-lacking.false c.in_ok-route_apart.ensures.does c.in_ok-route_apart.ensures.linked

pub returns-in_err-route_apart-clause-lost : goal.returns-in_err-route_apart-clause-lost
returns-in_err-route_apart-clause-lost c = λ is.
    let s = c.args.self.now in
    first_lost c.args.conn c.args.most c.in-Some.lacking (inner_of s.bus) s.posts.items c.route_apart.new.self.posts.items c.index.result.now s.trace.items c.route_apart.new.self.trace.items c.index.ensures c.in-Some.ensures.exact c.if-most-lacking.false
    (c.in_err-route_apart.ensures.lost (ap Err (same_fault c.from_residual.result _ RegistryLost c.from_residual.ensures.1 is)))

pub returns-in_err-route_apart-clause-spent : goal.returns-in_err-route_apart-clause-spent
returns-in_err-route_apart-clause-spent c = λ is.
    let s = c.args.self.now in
    first_spent c.args.conn c.args.most c.in-Some.lacking (inner_of s.bus) s.posts.items c.route_apart.new.self.posts.items c.index.result.now s.trace.items c.route_apart.new.self.trace.items c.index.ensures c.in-Some.ensures.exact c.if-most-lacking.false
    (c.in_err-route_apart.ensures.spent (ap Err (same_fault c.from_residual.result _ Spent c.from_residual.ensures.1 is)))
