use Rattle.atspi_match.proofs.AgainLemmas.{printed_again}
use Rattle.atspi_match.proofs.rule.Rule.print.Goals as goal

pub returns-then-is_err-clause-again : goal.returns-then-is_err-clause-again
returns-then-is_err-clause-again c = printed_again c.args.self.now c.conditions.ensures.rule

pub returns-else-is_err-clause-again : goal.returns-else-is_err-clause-again
returns-else-is_err-clause-again c = printed_again c.args.self.now c.conditions.ensures.rule
