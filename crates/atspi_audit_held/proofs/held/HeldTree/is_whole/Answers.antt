use Rattle.atspi_audit_held.proofs.Knowing.{whole_by}
use Rattle.atspi_audit_held.proofs.held.HeldTree.is_whole.Goals as goal

pub returns : goal.returns
returns c told agree =
    whole_by told c.args.self.now c.self.inside.tree c.self.inside.marks c.is_empty.result c.self.view_is c.tree.ensures.lawful c.self.invariant c.is_empty.ensures agree
