use Rattle.std.proofs.Common.{Bool, false, cond, not, ◌&&◌, ap, sym, ◌∙◌}
use Rattle.std.specs.Ordering.{nat_cmp}
use Rattle.std.specs.BTreeMap.{is_at}
use Rattle.std.specs.BTreeSet.{contains}
use Rattle.atspi_audit_held.proofs.lacking.forget_unless.Goals as goal

pub returns-then-test : goal.returns-then-test
returns-then-test c = λ n. sym (ap (λ (t : Bool). cond (not t && is_at (nat_cmp c.args.node) n) false (contains nat_cmp c.args.nodes.now n)) c.if-test.true)

pub returns : goal.returns
returns c = λ n.
    c.remove.ensures.updates.0 n
    ∙ sym (ap (λ (t : Bool). cond (not t && is_at (nat_cmp c.args.node) n) false (contains nat_cmp c.args.nodes.now n)) c.if-test.false)
