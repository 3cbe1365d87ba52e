use Rattle.std.proofs.Common.{Err, ap, arith}
use Rattle.atspi_bus_steps.specs.InnerBus.{inner_of}
use Rattle.atspi_world_moves.specs.declared.fault.CarryFault.TheVariants.{Spent, RegistryLost}
use Rattle.atspi_world_moves.proofs.Rounds.{not_yet, round_more, round_last, round_lost, round_spent, at_end}
use Rattle.atspi_world_moves.proofs.Stopping.{same_fault}
use Rattle.atspi_world_moves.proofs.carrier.Carrier.move_up_apart.Goals as goal

pub loop-message-init : goal.loop-message-init
loop-message-init c =
    let s = c.args.self.now in
    record { sound = c.requires.sound; moved = λ w is m. (not_yet w c.args.conn c.args.most (inner_of s.bus) s.posts.items s.at_end.items s.trace.items is m, omega arith) }

pub loop-message-preserved : goal.loop-message-preserved
loop-message-preserved c =
    let s = c.args.self.now in
    let was = c.loop-message in
    let new = c.move_some.new.self in
    record {
      sound = c.in_ok-rest.ensures.sound;
      moved = λ w is m. round_more w c.args.conn c.args.most was.left was._message c.in-Some.rest c.in_ok-rest.field-0 (inner_of was.self.bus) (inner_of new.bus) was.self.posts.items new.posts.items s.at_end.items
          was.self.at_end.items new.at_end.items s.trace.items was.self.trace.items new.trace.items (was.invariant.moved w is m) c.in-Some.is c.in_ok-rest.ensures.moves;
    }

pub returns-in-None-clause-moves : goal.returns-in-None-clause-moves
returns-in-None-clause-moves c = λ w is m.
    let s = c.args.self.now in
    let was = c.loop-message in
    let new = c.move_some.new.self in
    round_last w c.args.conn c.args.most was.left was._message c.in_ok-rest.field-0 (inner_of was.self.bus) (inner_of new.bus) was.self.posts.items new.posts.items s.at_end.items was.self.at_end.items new.at_end.items
    s.trace.items was.self.trace.items new.trace.items (was.invariant.moved w is m) c.in-None.is c.in_ok-rest.ensures.moves

pub returns-clause-moves : goal.returns-clause-moves
returns-clause-moves c = λ w is m.
    let s = c.args.self.now in
    let was = c.loop-message in
    let so = was.invariant.moved w is m in
    let within = so.1 in
    at_end w c.args.conn c.args.most was.left (inner_of was.self.bus) was.self.posts.items s.at_end.items was.self.at_end.items s.trace.items was.self.trace.items so.0 (omega (arith, within))

pub returns-in_err-rest-clause-lost : goal.returns-in_err-rest-clause-lost
returns-in_err-rest-clause-lost c = λ is w tied linked first m.
    let s = c.args.self.now in
    let was = c.loop-message in
    round_lost w c.args.conn c.args.most was.left was._message (inner_of was.self.bus) was.self.posts.items c.move_some.new.self.posts.items s.at_end.items was.self.at_end.items s.trace.items was.self.trace.items c.move_some.new.self.trace.items
    (was.invariant.moved w tied m) linked first (c.in_err-rest.ensures.lost (ap Err (same_fault c.from_residual.result _ RegistryLost c.from_residual.ensures.1 is)))

pub returns-in_err-rest-clause-spent : goal.returns-in_err-rest-clause-spent
returns-in_err-rest-clause-spent c = λ is w tied linked m.
    let s = c.args.self.now in
    let was = c.loop-message in
    round_spent w c.args.conn c.args.most was.left was._message (inner_of was.self.bus) was.self.posts.items c.move_some.new.self.posts.items s.at_end.items was.self.at_end.items s.trace.items was.self.trace.items c.move_some.new.self.trace.items
    (was.invariant.moved w tied m) linked (c.in_err-rest.ensures.spent (ap Err (same_fault c.from_residual.result _ Spent c.from_residual.ensures.1 is)))
