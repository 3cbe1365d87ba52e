use Rattle.std.proofs.Common.{rules, not, ◌==◌, ℕ}
use Rattle.std.proofs.lemmas.Fn.{filter_same}
use Rattle.atspi_bus.proofs.leaving.take_out.Goals as goal

pub returns : goal.returns
returns c = filter_same _ (λ (x : ℕ). not (x == c.args.conn)) _ (λ x b f' r. search rules) _ _ c.retain.ensures.filtered
