use Rattle.std.specs.Ordering.{nat_cmp}
use Rattle.std.specs.BTreeSet.{contains}
use Rattle.atspi_audit_held.specs.Held.{told_by}
use Rattle.atspi_audit_held.proofs.Stepping.{kept_right}
use Rattle.atspi_audit_held.proofs.steps.keep.Goals as goal

pub returns-clause-marks : goal.returns-clause-marks
returns-clause-marks c =
    kept_right (told_by c.args.marks.now.told.entries) (contains nat_cmp c.args.marks.now.lacking) c.args.tree.now c.apply.new.self c.args.step.now c.apply.result
    c.tree.ensures.lawful c.requires.is c.requires.can c.apply.ensures.ok c.apply.ensures.err c.requires.marks
