use Rattle.std.proofs.Common.{sym, ap, ◌≡◌, ◌∙◌, subst, true, false, cond}
use Rattle.std.specs.Ordering.{nat_cmp}
use Rattle.std.specs.BTreeSet.{contains}
use Rattle.atspi_tree_model.specs.Forest.{has, pick}
use Rattle.atspi_tree_model.specs.Tree.{is_shape}
use Rattle.atspi_tree.specs.TreeShape.{TreeShape}
use Rattle.atspi_audit_held.specs.Held.{told_by}
use Rattle.atspi_audit_held.proofs.Stepping.{removed_right, removed_there}
use Rattle.atspi_audit_held.proofs.steps.remove.Goals as goal

pub forget-requires : goal.forget-requires
forget-requires c = record { there = subst (λ (t : TreeShape). has (is_shape c.args.node) t.rows ≡ true) (sym c.tree.ensures.shape) (removed_there c.args.tree.now c.args.node c.requires.can) }

pub returns-clause-marks : goal.returns-clause-marks
returns-clause-marks c =
    removed_right (told_by c.args.marks.now.told.entries) (contains nat_cmp c.args.marks.now.lacking) (contains nat_cmp c.forget.new.lacking) c.args.tree.now c.take_out.new.self
    c.args.node c.tree.ensures.lawful
    (λ n. c.forget.ensures n ∙ ap (λ (t : TreeShape). cond (has (is_shape n) (pick (is_shape c.args.node) t.rows)) false (contains nat_cmp c.args.marks.now.lacking n)) c.tree.ensures.shape)
    c.take_out.ensures c.requires.marks
