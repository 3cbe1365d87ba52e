use Rattle.std.proofs.Common.{◌++◌, List, ℕ, arith, ap, ◌∙◌}
use Rattle.std.proofs.lemmas.Result.{on_ok_weaker}
use Rattle.atspi_run_make.specs.Live.{live_from}
use Rattle.atspi_run_make.proofs.LiveLemmas.{all_seen, none_seen}
use Rattle.atspi_run_make.proofs.nodes.LiveNodes.follow.Goals as goal

pub returns-then-len-clause-live : goal.returns-then-len-clause-live
returns-then-len-clause-live c =
    all_seen c.args.tree.now c.args.self.now.nodes.items c.look.new.self.nodes.items c.args.self.now.next c.len-2.ensures.lawful c.requires c.in_ok-look.ensures.ok
    (omega (arith, c.len-2.ensures.count))

pub returns-clause-live : goal.returns-clause-live
returns-clause-live c =
    on_ok_weaker c.look-2.result
    (λ is. none_seen c.args.tree.now c.look-2.new.self.nodes.items c.len-2.ensures.lawful (is ∙ ap (λ (ks : List ℕ). ks ++ live_from 0 c.args.tree.now) c.clear.ensures.items))
    c.look-2.ensures.ok
