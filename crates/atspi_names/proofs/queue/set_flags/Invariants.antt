use Rattle.std.proofs.Common.{◌≡◌, ◌++◌, take, drop}
use Rattle.atspi_names.specs.Queue.{with_flags}
use Rattle.atspi_names.proofs.queue.set_flags.Given as goal

abbrev pub invariant-loop-entry : goal.invariant-loop-entry
invariant-loop-entry l =
    l.entry-items ≡ with_flags l.conn l.flags (take l.entry-index l.initial.entry-items) ++ drop l.entry-index l.initial.entry-items
