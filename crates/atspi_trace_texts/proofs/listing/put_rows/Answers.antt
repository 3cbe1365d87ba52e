use Rattle.atspi_trace_texts.proofs.Written.{row_written}
use Rattle.atspi_trace_texts.proofs.listing.put_rows.Goals as goal

pub loop-row-preserved : goal.loop-row-preserved
loop-row-preserved c = row_written c.args.rows.now c.loop-row.row-index c.row-item.result c.args.out.now c.loop-row.out c.put_row.new.out c.push.new.self c.loop-row-test.true c.row-item.is c.loop-row.invariant c.in_ok-put_row.ensures.ok c.in_ok-push.ensures.ok
