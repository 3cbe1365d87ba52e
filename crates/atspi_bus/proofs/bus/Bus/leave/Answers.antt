use Rattle.std.proofs.Common.{◌<◌, ℕ, sym, subst}
use Rattle.std.specs.List.{All}
use Rattle.atspi_match.specs.routing.Queues.{Bus}
use Rattle.atspi_bus_steps.specs.InnerBus.{inner_of}
use Rattle.atspi_bus.specs.Exclusive.{IsExclusive}
use Rattle.atspi_bus.proofs.Orders.{left-exclusive}
use Rattle.atspi_bus.proofs.Joined.{in_both, always_ok, left-joined_below}
use Rattle.atspi_bus.proofs.bus.Bus.leave.Goals as goal

pub invariant_of-self : goal.invariant_of-self
invariant_of-self c = record {
  limit = c.args.self.now.limit;
  below = in_both c.leave_whole-left.result c.leave_whole-left.ensures.ok c.leave_whole-left.ensures.err
      (λ is. left-joined_below (inner_of c.args.self.now.inner) (inner_of c.leave_whole-left.new.inner) c.args.conn c.args.self.now.given c.args.self.now.below is)
      (λ is. subst (λ (b : Bus). All (λ (x : ℕ). x < c.args.self.now.given) b.state.joined) (sym is) c.args.self.now.below);
  sound = c.leave_whole-left.ensures.sound;
  exclusive = in_both c.leave_whole-left.result c.leave_whole-left.ensures.ok c.leave_whole-left.ensures.err
      (λ is. left-exclusive (inner_of c.args.self.now.inner) (inner_of c.leave_whole-left.new.inner) c.args.conn c.args.self.now.exclusive is)
      (λ is. subst (λ (b : Bus). IsExclusive b.state.owners) (sym is) c.args.self.now.exclusive);
}

pub returns-clause-serial : goal.returns-clause-serial
returns-clause-serial c = always_ok c.leave_whole-left.result c.leave_whole-left.ensures.sound.ready.last
