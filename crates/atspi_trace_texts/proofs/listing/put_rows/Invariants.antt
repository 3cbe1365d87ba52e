use Rattle.std.proofs.Common.{◌≡◌, ◌++◌, map, take}
use Rattle.std.specs.List.{flat_map}
use Rattle.atspi_trace_texts.specs.EventText.{ended}
use Rattle.atspi_trace_texts.specs.Rows.{row_line}
use Rattle.atspi_trace_texts.proofs.listing.put_rows.Given as goal

abbrev pub invariant-loop-row : goal.invariant-loop-row
invariant-loop-row l = l.out ≡ l.initial.out ++ flat_map ended (map row_line (take l.row-index l.rows))
