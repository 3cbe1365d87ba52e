use Rattle.std.proofs.Common.{ap, ◌∙◌}
use Rattle.std.specs.Ordering.{nat_cmp}
use Rattle.std.specs.BTreeSet.{contains}
use Rattle.atspi_audit_held.specs.Held.{told_by}
use Rattle.atspi_audit_held.specs.inner.Lacking.{lacks}
use Rattle.atspi_audit_held.proofs.Stepping.{added_right, back_right, same_right}
use Rattle.atspi_audit_held.proofs.steps.add.Goals as goal

pub returns-in_err-note_if-clause-marks : goal.returns-in_err-note_if-clause-marks
returns-in_err-note_if-clause-marks c =
    same_right (told_by c.args.marks.now.told.entries) (contains nat_cmp c.args.marks.now.lacking) (contains nat_cmp c.note_if.new.nodes) c.args.tree.now
    c.in_err-note_if.ensures.err c.requires.marks

pub returns-in-Ok-clause-marks : goal.returns-in-Ok-clause-marks
returns-in-Ok-clause-marks c =
    added_right (told_by c.args.marks.now.told.entries) (contains nat_cmp c.args.marks.now.lacking) (contains nat_cmp c.note_if.new.nodes) c.args.tree.now c.apply.new.self
    c.args.step.now c.args.node c.args.seed.now c.is_lacking-test.result c.tree.ensures.lawful c.requires.can c.requires.is
    (c.is_lacking-test.ensures ∙ ap (λ t. lacks t c.kinds_of_seed.result) c.known_of.ensures ∙ ap (lacks (told_by c.args.marks.now.told.entries c.args.node)) c.kinds_of_seed.ensures)
    c.in_ok-note_if.ensures.ok c.in-Ok.ensures.ok c.requires.marks

pub returns-in-Err-clause-marks : goal.returns-in-Err-clause-marks
returns-in-Err-clause-marks c =
    back_right (told_by c.args.marks.now.told.entries) (contains nat_cmp c.args.marks.now.lacking) (contains nat_cmp c.note_if.new.nodes) (contains nat_cmp c.take_back.new.lacking)
    c.args.tree.now c.apply.new.self c.args.step.now c.args.node c.args.seed.now c.is_lacking-test.result c.tree.ensures.lawful c.requires.can c.requires.is
    c.in_ok-note_if.ensures.ok c.take_back.ensures c.in-Err.ensures.err c.requires.marks
