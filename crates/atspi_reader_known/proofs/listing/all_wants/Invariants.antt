use Rattle.std.proofs.Common.{◌≡◌, ◌++◌, length, map}
use Rattle.atspi_reader_known.specs.Listed.{all_wants}
use Rattle.atspi_reader_known.proofs.Rows.{row_of_sight}
use Rattle.atspi_reader_known.proofs.listing.all_wants.Given as goal

-- what was listed, and what is wanted of the rows that are left
abbrev pub invariant-loop-seen : goal.invariant-loop-seen
invariant-loop-seen l = l.wants.items ++ all_wants l.refused (map row_of_sight l.rest) ≡ all_wants l.refused (map row_of_sight l.fn.rows)

abbrev pub decreases-loop-seen : goal.decreases-loop-seen
decreases-loop-seen l = length l.rest
