use Rattle.std.proofs.Common.{ℕ, Bool, List, true, cond, ◌&&◌, ap, sym, ◌∙◌}
use Rattle.std.specs.List.{list_any}
use Rattle.std.specs.Ordering.{nat_cmp}
use Rattle.std.specs.BTreeMap.{is_at}
use Rattle.std.specs.BTreeSet.{contains}
use Rattle.atspi_audit_held.proofs.Collecting.{err_so}
use Rattle.atspi_audit_held.proofs.lacking.note_if.Goals as goal

pub returns-then-not-test-clause-ok : goal.returns-then-not-test-clause-ok
returns-then-not-test-clause-ok c = λ n. sym (ap (λ (t : Bool). cond (t && is_at (nat_cmp c.args.node) n) true (contains nat_cmp c.args.nodes.now n)) c.if-not-test.true)

pub returns-in_err-insert-clause-err : goal.returns-in_err-insert-clause-err
returns-in_err-insert-clause-err c = err_so _ c.from_residual.result (λ n. ap (λ (ks : List ℕ). list_any (is_at (nat_cmp n)) ks) c.in_err-insert.ensures.err)

pub returns-clause-ok : goal.returns-clause-ok
returns-clause-ok c = λ n.
    c.in_ok-insert.ensures.updates.0 n
    ∙ sym (ap (λ (t : Bool). cond (t && is_at (nat_cmp c.args.node) n) true (contains nat_cmp c.args.nodes.now n)) c.if-not-test.false)
