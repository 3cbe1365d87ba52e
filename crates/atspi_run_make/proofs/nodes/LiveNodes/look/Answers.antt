use Rattle.std.proofs.Common.{◌++◌, ℕ, List, sym, ap, ◌∙◌, arith, append-nil}
use Rattle.atspi_run_make.specs.declared.nodes.LiveNodes.{LiveNodes}
use Rattle.atspi_run_make.proofs.LiveLemmas.{none_from}
use Rattle.atspi_run_make.proofs.nodes.LiveNodes.look.Goals as goal
use Rattle.atspi_run_make.proofs.nodes.LiveNodes.look.Goals.{then-self-from+in_ok-push_from, else-self-from}

pub returns-clause-ok : goal.returns-clause-ok
returns-clause-ok c =
    elim c.if-self-from.branch [
      | then-self-from+in_ok-push_from w ↦ ap (λ (live : LiveNodes). live.nodes.items) w.self-is ∙ w.in_ok-push_from.ensures.ok
      | else-self-from w ↦ ap (λ (live : LiveNodes). live.nodes.items) w.self-is ∙ sym (append-nil c.args.self.now.nodes.items)
          ∙ ap (λ (ks : List ℕ). c.args.self.now.nodes.items ++ ks) (sym (none_from c.args.tree.now c.args.self.now.next (λ l. let k = w.if-self-from.false in omega arith)))
    ]
