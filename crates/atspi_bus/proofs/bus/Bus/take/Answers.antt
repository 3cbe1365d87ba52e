use Rattle.std.proofs.Common.{◌<◌, ℕ, sym, subst}
use Rattle.std.specs.List.{All}
use Rattle.atspi_message_in_place.specs.View.{envelope_at}
use Rattle.atspi_match.specs.routing.Queues.{Bus}
use Rattle.atspi_bus_steps.specs.InnerBus.{inner_of}
use Rattle.atspi_bus.specs.Exclusive.{IsExclusive}
use Rattle.atspi_bus.proofs.Orders.{taken-exclusive}
use Rattle.atspi_bus.proofs.Joined.{in_both, always_ok, taken-joined_below}
use Rattle.atspi_bus.proofs.bus.Bus.take.Goals as goal

pub invariant_of-self : goal.invariant_of-self
invariant_of-self c = record {
  limit = c.args.self.now.limit;
  below = in_both c.take_whole-taken.result c.take_whole-taken.ensures.ok c.take_whole-taken.ensures.err
      (λ h. taken-joined_below (inner_of c.args.self.now.inner) (inner_of c.take_whole-taken.new.inner) c.args.conn c.args.self.now.given (envelope_at c.args.m.now) c.args.self.now.below h)
      (λ is. subst (λ (b : Bus). All (λ (x : ℕ). x < c.args.self.now.given) b.state.joined) (sym is) c.args.self.now.below);
  sound = c.take_whole-taken.ensures.sound;
  exclusive = in_both c.take_whole-taken.result c.take_whole-taken.ensures.ok c.take_whole-taken.ensures.err
      (λ h. taken-exclusive (inner_of c.args.self.now.inner) (inner_of c.take_whole-taken.new.inner) c.args.conn (envelope_at c.args.m.now) c.args.self.now.sound c.args.self.now.exclusive h)
      (λ is. subst (λ (b : Bus). IsExclusive b.state.owners) (sym is) c.args.self.now.exclusive);
}

pub returns-clause-serial : goal.returns-clause-serial
returns-clause-serial c = always_ok c.take_whole-taken.result c.take_whole-taken.ensures.sound.ready.last
