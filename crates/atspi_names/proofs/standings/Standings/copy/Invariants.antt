use Rattle.std.proofs.Common.{length}
use Rattle.atspi_names.proofs.Copies.{AreNoted}
use Rattle.atspi_names.proofs.standings.Standings.copy.Given as goal

abbrev pub invariant-loop-conn : goal.invariant-loop-conn
invariant-loop-conn l = AreNoted l.initial.rest l.rest l.sets

abbrev pub decreases-loop-conn : goal.decreases-loop-conn
decreases-loop-conn l = length l.rest
