use Rattle.atspi_bus_steps.specs.InnerBus.{inner_of, state_of}
use Rattle.atspi_bus_steps.specs.Sound.{IsSound}
use Rattle.atspi_bus_steps.proofs.Settling.{IsSettling}
use Rattle.atspi_bus_steps.proofs.inner.Inner.close_due.Given as goal

abbrev pub invariant-loop-round : goal.invariant-loop-round
invariant-loop-round l = record {
  settling : IsSettling l.rounds l.round (inner_of l.fn.self) (inner_of l.self);
  sound : IsSound (state_of l.self);
}
