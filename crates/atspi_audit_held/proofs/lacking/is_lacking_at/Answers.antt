use Rattle.std.proofs.Common.{sym, ◌∙◌}
use Rattle.atspi_audit_held.specs.Held.{told_of}
use Rattle.atspi_audit_held.proofs.Lacked.{at_none, at_row}
use Rattle.atspi_audit_held.proofs.lacking.is_lacking_at.Goals as goal

pub returns-then-not-has : goal.returns-then-not-has
returns-then-not-has c = sym (at_none (λ n. told_of c.args.known) c.args.tree.now.rows c.args.node (sym c.has.ensures.answer ∙ c.if-not-has.true))

pub returns : goal.returns
returns c =
    c.is_lacking.ensures
    ∙ sym (at_row (λ n. told_of c.args.known) c.args.tree.now.rows c.args.tree.now.added c.args.node c.kinds.result c.is_lawful.ensures c.kinds.ensures)
