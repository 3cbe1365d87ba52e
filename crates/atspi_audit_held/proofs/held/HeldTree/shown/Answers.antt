use Rattle.std.proofs.Common.{◌∙◌}
use Rattle.atspi_audit_held.proofs.Showing.{shown_by}
use Rattle.atspi_audit_held.proofs.held.HeldTree.shown.Goals as goal

pub returns : goal.returns
returns c told agree =
    c.from_vec.ensures
    ∙ shown_by told c.args.self.now c.self.inside.tree c.self.inside.marks.told.entries c.in_ok-rows.rows.items c.self.view_is c.tree.ensures.lawful c.in_ok-rows.ensures agree
