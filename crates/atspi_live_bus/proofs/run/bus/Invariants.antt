use Rattle.std.proofs.Common.{◌≡◌}
use Rattle.std.specs.Prelude.{◌≢◌}
use Rattle.atspi_live_host.specs.declared.call.Did.{Did}
use Rattle.atspi_live_host.specs.declared.call.Did.TheVariants.{Failed}
use Rattle.atspi_live_bus.specs.Service.{OfTold}
use Rattle.atspi_live_bus.specs.inner.Serving.{Serves}
use Rattle.atspi_live_bus.proofs.Rounding.{HasRounds}
use Rattle.atspi_live_bus.proofs.run.bus.Given as goal

abbrev pub invariant-loop : goal.invariant-loop
invariant-loop g l = record {
  serves : Serves (g.H.Host.links l.host) l.hall.links.items;
  rounds : (did : Did) × (did ≢ Failed) × OfTold (HasRounds l.path l.counter did l.hall.bus l.hall.links.items) (g.H.Host.calls l.host);
  same : g.H.Host.faults l.host ≡ g.H.Host.faults l.fn.host;
}
