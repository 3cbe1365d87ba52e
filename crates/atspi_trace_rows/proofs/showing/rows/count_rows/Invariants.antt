use Rattle.std.proofs.Common.{◌≡◌, ◌+◌, ◌-◌, ◌^◌, ◌≤◌, length, min}
use Rattle.atspi_trace_rows.proofs.showing.rows.count_rows.Given as goal

-- those counted and those left are all
abbrev pub invariant-loop-seen : goal.invariant-loop-seen
invariant-loop-seen l = record {
  within : l.count ≤ 2 ^ 64 - 1;
  all : min (l.count + length l.rest) (2 ^ 64 - 1) ≡ min (length l.fn.rows) (2 ^ 64 - 1);
}

abbrev pub decreases-loop-seen : goal.decreases-loop-seen
decreases-loop-seen l = length l.rest
