use Rattle.std.proofs.Common.{rules}
use Rattle.atspi_run_hit.specs.inner.Seen.{seen}
use Rattle.atspi_run_hit.proofs.Asking.{place_done, place_refused}
use Rattle.atspi_run_hit.proofs.placed.Placed.place.Goals as goal

pub returns-then-not-has-clause-answers : goal.returns-then-not-has-clause-answers
returns-then-not-has-clause-answers g c = place_refused (seen g.T.Whole.tree_of c.args.self.now) c.args.node c.args.rect c.tree.result.now c.tree.ensures (search rules)

pub returns-in-Ok-clause-answers : goal.returns-in-Ok-clause-answers
returns-in-Ok-clause-answers g c = place_done (seen g.T.Whole.tree_of c.args.self.now) c.args.node c.args.rect c.tree.result.now _ c.tree.ensures (search rules) c.in-Ok.ensures.ok
