use Rattle.std.proofs.Common.{◌≡◌, ◌++◌, length, map}
use Rattle.atspi_reader_known.specs.Wanted.{first_wanted}
use Rattle.atspi_reader_known.proofs.Rows.{row_of_sight}
use Rattle.atspi_reader_known.proofs.unknown.first_wanted.Given as goal

-- what is first in what is left is first in all
abbrev pub invariant-loop-seen : goal.invariant-loop-seen
invariant-loop-seen l = first_wanted (l.refused ++ l.more) (map row_of_sight l.rest) ≡ first_wanted (l.refused ++ l.more) (map row_of_sight l.fn.rows)

abbrev pub decreases-loop-seen : goal.decreases-loop-seen
decreases-loop-seen l = length l.rest
