use Rattle.atspi_match.proofs.UniqueLemmas.{only, told}
use Rattle.atspi_match.proofs.rule.Rule.parse.Goals as goal

pub returns-clause-only : goal.returns-clause-only
returns-clause-only c = only c.args.bytes.now c.read_rule.result c.read_rule.ensures.found c.read_rule.ensures.first

pub returns-clause-told : goal.returns-clause-told
returns-clause-told c = told c.args.bytes.now c.read_rule.result c.read_rule.ensures.found c.read_rule.ensures.first
