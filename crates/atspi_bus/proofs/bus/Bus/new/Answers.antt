use Rattle.std.proofs.Common.{ℕ, ◌<◌, sym, subst, arith}
use Rattle.std.specs.List.{All}
use Rattle.std.proofs.lemmas.List.Elements.{All-nil}
use Rattle.atspi_match.specs.routing.Queues.{Bus}
use Rattle.atspi_bus_steps.specs.Sound.{IsSound}
use Rattle.atspi_bus.specs.Exclusive.{IsExclusive}
use Rattle.atspi_bus.proofs.Exclusives.{exclusive-nobody}
use Rattle.atspi_bus.proofs.Joined.{sound-begins}
use Rattle.atspi_bus.proofs.bus.Bus.new.Goals as goal

pub invariant_of-result : goal.invariant_of-result
invariant_of-result c = record {
  limit = omega arith;
  below = subst (λ (b : Bus). All (λ (x : ℕ). x < 0) b.state.joined) (sym c.new.ensures.bus) (All-nil (λ (x : ℕ). x < 0));
  exclusive = subst (λ (b : Bus). IsExclusive b.state.owners) (sym c.new.ensures.bus) exclusive-nobody;
  sound = subst (λ (b : Bus). IsSound b.state) (sym c.new.ensures.bus) sound-begins;
}
