use Rattle.atspi_run_hit.specs.inner.Seen.{seen}
use Rattle.atspi_run_hit.proofs.Asking.{if_ok}
use Rattle.atspi_run_hit.proofs.Asking.{reply_is}
use Rattle.atspi_run_hit.proofs.placed.Placed.answered.Goals as goal

pub returns : goal.returns
returns g c = if_ok _ _ c.reply.result (λ m h. reply_is (seen g.T.Whole.tree_of c.args.self.now) c.args.node c.args.ask c.args.serial c.tree.result.now _ _ _ c.requires c.tree.ensures c.in_ok-name.ensures c.in_ok-caller.ensures h) c.reply.ensures
