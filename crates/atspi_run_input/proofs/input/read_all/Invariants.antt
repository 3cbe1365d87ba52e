use Rattle.std.proofs.Common.{◌≡◌, ◌≤◌, ◌-◌, length}
use Rattle.std.specs.Io.KnownBytes.{Consumes}
use Rattle.atspi_run_input.proofs.input.read_all.Given as goal

abbrev pub invariant-loop-n : goal.invariant-loop-n
invariant-loop-n g l =
    record {
      read : Consumes (g.S.Source.left l.fn.source) (g.S.Source.left l.source) l.text.items;
      limit : length l.text.items ≤ 16777216;
      steady : g.S.Source.faults l.source ≡ g.S.Source.faults l.fn.source;
      chunk : length l.chunk ≡ 4096;
    }

abbrev pub decreases-loop-n : goal.decreases-loop-n
decreases-loop-n g l = 16777216 - length l.text.items
