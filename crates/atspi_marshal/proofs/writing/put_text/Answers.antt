use Rattle.std.proofs.Common.{◌∙◌}
use Rattle.atspi_marshal.proofs.WritingSteps.{text_writes}
use Rattle.atspi_marshal.proofs.writing.put_text.Goals as goal

pub returns-clause-writes : goal.returns-clause-writes
returns-clause-writes c =
    let same = c.as_bytes.ensures.value in
    text_writes c.args.order c.args.at c.args.text.now c.as_bytes.result.now c.args.out.now c.put_counted.new.out c.put_counted.result (same ∙ c.as_str.ensures.spelled) c.as_bytes.ensures.utf8 (rw same c.as_str.ensures.chars) (rw same c.as_str.ensures.no_zero) (rw same c.as_str.ensures.counted)
    c.put_counted.ensures.writes
