use Rattle.std.proofs.Common.{ap, ◌∙◌}
use Rattle.atspi_match.specs.RuleIndex.{rules_of}
use Rattle.atspi_match.proofs.rule_index.RuleIndex.rules_of.Goals as goal

pub returns : goal.returns
returns c = c.of.ensures ∙ c.self.invariant.counted c.args.conn ∙ ap (rules_of c.args.conn) c.self.view_is
