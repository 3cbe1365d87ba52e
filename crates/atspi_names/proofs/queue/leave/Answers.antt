use Rattle.std.proofs.Common.{rules, not, ◌==◌, ℕ}
use Rattle.std.proofs.lemmas.Fn.{filter_same}
use Rattle.atspi_names.proofs.queue.leave.Goals as goal

pub returns-clause-items : goal.returns-clause-items
returns-clause-items c = filter_same _ (λ (e : ℕ × ℕ). not (e.0 == c.args.conn)) _ (λ x b f' r. search rules) _ _ c.retain.ensures.filtered
