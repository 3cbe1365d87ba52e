use Rattle.std.proofs.Common.{ℕ, List, ap, sym, ◌∙◌}
use Rattle.atspi_audit_held.specs.Held.{told_by}
use Rattle.atspi_audit_held.specs.declared.known.Known.{Known}
use Rattle.atspi_audit_held.specs.inner.Lacking.{no_parts}
use Rattle.atspi_audit_held.proofs.Lacked.{told_alike}
use Rattle.atspi_audit_held.proofs.lacking.marks_of_tree.Goals as goal

pub returns-clause-marks : goal.returns-clause-marks
returns-clause-marks c = λ n.
    c.in_ok-lacking.ensures n
    ∙ told_alike no_parts (told_by c.new-told.result.entries) c.args.tree.now.rows n (sym (ap (λ (es : List (ℕ × Known)). told_by es n) c.new-told.ensures.empty))

pub returns-clause-told : goal.returns-clause-told
returns-clause-told c = λ n l. sym (ap (λ (es : List (ℕ × Known)). told_by es n) c.new-told.ensures.empty)
