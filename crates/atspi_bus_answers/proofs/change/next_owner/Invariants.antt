use Rattle.std.proofs.Common.{◌≡◌, drop}
use Rattle.atspi_names.specs.Queue.{without}
use Rattle.atspi_bus_answers.proofs.change.next_owner.Given as goal

-- those who were passed are the connection alone
abbrev pub invariant-loop-other : goal.invariant-loop-other
invariant-loop-other l = without l.conn l.queue ≡ without l.conn (drop l.other-index l.queue)
