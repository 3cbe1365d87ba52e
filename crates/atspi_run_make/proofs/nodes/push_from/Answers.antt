use Rattle.std.proofs.Common.{◌+◌, ◌++◌, ℕ, List, sym, ap, ◌∙◌, arith, append-nil}
use Rattle.atspi_run_make.proofs.Words.{pushed}
use Rattle.atspi_run_make.proofs.LiveLemmas.{found_to, found_all, found_more, found_none, none_so_high}
use Rattle.atspi_run_make.proofs.nodes.push_from.Goals as goal

pub loop-node-init : goal.loop-node-init
loop-node-init c = record {
  beyond = omega arith;
  found = sym (append-nil c.args.nodes.now.items) ∙ ap (λ (ks : List ℕ). c.args.nodes.now.items ++ ks) (sym (found_none c.args.tree.now c.args.first));
}

pub loop-node-preserved : goal.loop-node-preserved
loop-node-preserved c = record {
  beyond = let next = c.in-Some-checked_add.ensures.1 in let l = c.in-Some.ensures.next.0 in let m = c.loop-node.invariant.beyond in omega arith;
  found =
      found_more c.args.tree.now c.args.first c.loop-node.from c.in-Some.node c.args.nodes.now.items c.loop-node.nodes.items c.push.new.self.items c.loop-node.invariant.beyond c.in-Some.ensures.next
      c.loop-node.invariant.found (pushed c.push.result c.loop-node.nodes.items _ _ c.if-is_err.ensures.value c.push.ensures.items)
      ∙ ap (λ (j : ℕ). c.args.nodes.now.items ++ found_to c.args.first c.args.tree.now j) (sym c.in-Some-checked_add.ensures.1);
}

pub returns-in-None-clause-ok : goal.returns-in-None-clause-ok
returns-in-None-clause-ok c =
    found_more c.args.tree.now c.args.first c.loop-node.from c.in-Some.node c.args.nodes.now.items c.loop-node.nodes.items c.push.new.self.items c.loop-node.invariant.beyond c.in-Some.ensures.next
    c.loop-node.invariant.found (pushed c.push.result c.loop-node.nodes.items _ _ c.if-is_err.ensures.value c.push.ensures.items)
    ∙ ap (λ (ks : List ℕ). c.args.nodes.now.items ++ ks)
    (found_all c.args.tree.now c.args.first (c.in-Some.node + 1) c.in-Some.ensures.lawful (none_so_high c.args.tree.now (c.in-Some.node + 1) c.in-Some.ensures.lawful c.in-None.ensures))

pub returns-clause-ok : goal.returns-clause-ok
returns-clause-ok c =
    c.loop-node.invariant.found
    ∙ ap (λ (ks : List ℕ). c.args.nodes.now.items ++ ks) (found_all c.args.tree.now c.args.first c.loop-node.from c.in_default.ensures.lawful c.in_default.ensures.next)
