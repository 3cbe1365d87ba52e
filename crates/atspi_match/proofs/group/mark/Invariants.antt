use Rattle.std.proofs.Common.{◌≡◌, take}
use Rattle.std.specs.List.{fold}
use Rattle.atspi_match.specs.Groups.{mixed, seed}
use Rattle.atspi_match.proofs.group.mark.Given as goal

abbrev pub invariant-loop-byte : goal.invariant-loop-byte
invariant-loop-byte l = l.mark ≡ fold mixed (seed l.fn.key) (take l.byte-index l.front)
