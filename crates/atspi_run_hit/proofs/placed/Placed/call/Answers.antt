use Rattle.std.proofs.Common.{refl}
use Rattle.atspi_run_hit.specs.inner.Seen.{seen}
use Rattle.atspi_run_hit.proofs.Asking.{call_done}
use Rattle.atspi_run_hit.proofs.placed.Placed.call.Goals as goal

pub returns-in-Ok-put_message-clause-answers : goal.returns-in-Ok-put_message-clause-answers
returns-in-Ok-put_message-clause-answers g c = call_done (seen g.T.Whole.tree_of c.args.self.now) c.args.node c.args.ask _ _ _ _ refl c.requires.empty c.in-Ok-put_message.ensures c.in-Ok.ensures
