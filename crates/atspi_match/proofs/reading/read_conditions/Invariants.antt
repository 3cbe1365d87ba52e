use Rattle.std.proofs.Common.{◌-◌, ◌≤◌, length}
use Rattle.atspi_match.specs.inner.Items.{ReadSoFar}
use Rattle.atspi_match.proofs.reading.read_conditions.Given as goal

abbrev pub invariant-items : goal.invariant-items
invariant-items l = ReadSoFar l.bytes l.at l.conditions.items × (l.at ≤ length l.bytes)

abbrev pub decreases-items : goal.decreases-items
decreases-items l = length l.bytes - l.at
