use Rattle.std.proofs.Common.{◌≡◌, ◌-◌, ◌≤◌, length}
use Rattle.atspi_match.specs.inner.Values.{SpelledSoFar}
use Rattle.atspi_match.proofs.value.read_value.Given as goal

abbrev pub invariant-parts : goal.invariant-parts
invariant-parts l = SpelledSoFar l.bytes l.value.items l.at × (l.at ≤ length l.bytes)

abbrev pub decreases-parts : goal.decreases-parts
decreases-parts l = length l.bytes - l.at
