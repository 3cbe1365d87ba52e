use Rattle.atspi_audit_text.proofs.Fronts.{behind_line}
use Rattle.atspi_audit_text.proofs.readers.next_told.Goals as goal

pub returns-in-None : goal.returns-in-None
returns-in-None c = λ line bytes rest h.
    (rw c.in-None.is at c.in_ok-bytes.ensures) bytes rest h.are
    (behind_line line bytes rest c.args.text.now c.in-Some.line.now c.in-Some.behind.now c.in-Some.ensures.0 c.in-Some.ensures.1 h)
