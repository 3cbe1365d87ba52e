use Rattle.std.proofs.Common.{◌≡◌, ◌≤◌, ◌-◌, ◌++◌, drop, length}
use Rattle.std.specs.List.{flat_map}
use Rattle.atspi_base.specs.Quoted.{escaped}
use Rattle.atspi_script_lines.proofs.quoted.unquoted.Given as goal

abbrev pub invariant-loop-at : goal.invariant-loop-at
invariant-loop-at l =
    record {
      done : l.inner ≡ flat_map escaped l.out.items ++ drop l.at l.inner;
      within : l.at ≤ length l.inner;
    }

abbrev pub decreases-loop-at : goal.decreases-loop-at
decreases-loop-at l = length l.inner - l.at
