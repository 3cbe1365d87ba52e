use Rattle.std.proofs.Common.{◌≡◌}
use Rattle.atspi_live_tests.proofs.sockets.passing.pass.Given as goal

abbrev pub invariant-tries : goal.invariant-tries
invariant-tries g l = record {
  from : g.A.Host.links l.from ≡ g.A.Host.links l.fn.from;
  to : g.B.Host.links l.to ≡ g.B.Host.links l.fn.to;
}
