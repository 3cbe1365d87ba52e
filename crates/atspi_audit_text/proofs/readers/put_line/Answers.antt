use Rattle.atspi_audit_text.proofs.Fronts.{line_put}
use Rattle.atspi_audit_text.proofs.readers.put_line.Goals as goal

pub returns : goal.returns
returns c = line_put _ _ _ _ _ _ _ _ c.in_ok-extend.ensures.ok c.in_ok-put_decimal.ensures.ok c.in_ok-push.ensures.ok c.in_ok-message_text.ensures.ok
