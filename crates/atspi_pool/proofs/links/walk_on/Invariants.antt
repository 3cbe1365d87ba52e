use Rattle.std.proofs.Common.{◌≡◌}
use Rattle.atspi_pool.proofs.WalkLemmas.{jump}
use Rattle.atspi_pool.proofs.links.walk_on.Given as goal

abbrev pub invariant-loop : goal.invariant-loop
invariant-loop l = l.block ≡ jump l.next l.from l.counter
