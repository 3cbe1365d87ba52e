use Rattle.std.proofs.Common.{ℕ, List, ap, sym, cond, ◌∙◌}
use Rattle.std.specs.Ordering.{nat_cmp}
use Rattle.std.specs.BTreeMap.{is_at}
use Rattle.std.specs.BTreeSet.{contains}
use Rattle.atspi_tree_model.specs.View.{Told}
use Rattle.atspi_audit_held.specs.Held.{told_by, told_of}
use Rattle.atspi_audit_held.specs.declared.known.Known.{Known}
use Rattle.atspi_audit_held.specs.inner.Lacking.{told_with}
use Rattle.atspi_audit_held.proofs.Lacked.{told_alike}
use Rattle.atspi_audit_held.proofs.Telling.{known_in, marks_told}
use Rattle.atspi_audit_held.proofs.lacking.tell_node.Goals as goal

pub returns-in_err-insert-clause-marks : goal.returns-in_err-insert-clause-marks
returns-in_err-insert-clause-marks c = λ n.
    c.requires.marks n
    ∙ told_alike (told_by c.args.marks.now.told.entries) (told_by c.insert.new.self.entries) c.args.tree.now.rows n
    (sym (ap (λ (es : List (ℕ × Known)). told_by es n) c.in_err-insert.ensures.err))

pub returns-clause-marks : goal.returns-clause-marks
returns-clause-marks c =
    marks_told c.args.tree.now.rows c.args.node c.args.part (told_by c.args.marks.now.told.entries) (told_by c.insert.new.self.entries)
    (contains nat_cmp c.args.marks.now.lacking) (contains nat_cmp c.forget_unless.new.nodes) c.is_lacking_at-test.result (told_of c.known_with-known.result)
    (c.known_with-known.ensures ∙ ap (λ (t : Told). told_with t c.args.part) c.known_of.ensures) c.is_lacking_at-test.ensures
    (known_in c.args.marks.now.told.entries c.insert.new.self.entries c.args.node c.known_with-known.result c.in_ok-insert.ensures.updates.0) c.forget_unless.ensures c.requires.marks

pub returns-clause-told : goal.returns-clause-told
returns-clause-told c = λ n.
    known_in c.args.marks.now.told.entries c.insert.new.self.entries c.args.node c.known_with-known.result c.in_ok-insert.ensures.updates.0 n
    ∙ ap (λ (t : Told). cond (is_at (nat_cmp c.args.node) n) t (told_by c.args.marks.now.told.entries n))
    (c.known_with-known.ensures ∙ ap (λ (t : Told). told_with t c.args.part) c.known_of.ensures)
