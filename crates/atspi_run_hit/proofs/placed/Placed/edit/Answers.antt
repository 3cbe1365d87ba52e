use Rattle.atspi_run_hit.specs.inner.Seen.{seen}
use Rattle.atspi_run_hit.proofs.Asking.{edit_done, edit_refused}
use Rattle.atspi_run_hit.proofs.placed.Placed.edit.Goals as goal

pub returns-in-Ok-clause-answers : goal.returns-in-Ok-clause-answers
returns-in-Ok-clause-answers g c = edit_done (seen g.T.Whole.tree_of c.args.self.now) c.args.edit.now _ _ c.tree.result.now c.in-Ok.ensures.exact c.tree.ensures c.forget.ensures

pub returns-in-Err-Refused-clause-answers : goal.returns-in-Err-Refused-clause-answers
returns-in-Err-Refused-clause-answers g c = edit_refused (seen g.T.Whole.tree_of c.args.self.now) c.args.edit.now c.in-Err-Refused.why (rw c.in-Err-Refused.field-0-is at c.in-Err-Refused.ensures.exact)
