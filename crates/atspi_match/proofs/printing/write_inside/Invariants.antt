use Rattle.std.proofs.Common.{◌≡◌, ◌-◌, ◌≤◌, ◌++◌, length, take}
use Rattle.std.specs.Prelude.{flat_map}
use Rattle.atspi_match.specs.Printed.{quoted_byte}
use Rattle.atspi_match.proofs.printing.write_inside.Given as goal

abbrev pub invariant-runs : goal.invariant-runs
invariant-runs l = (l.at ≤ length l.value) × (l.out ≡ l.fn.out ++ flat_map quoted_byte (take l.at l.value))

abbrev pub decreases-runs : goal.decreases-runs
decreases-runs l = length l.value - l.at
