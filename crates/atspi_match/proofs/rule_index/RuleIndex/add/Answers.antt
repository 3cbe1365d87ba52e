use Rattle.std.proofs.Common.{◌≡◌, ◌≢◌, refl, ap, sym, ◌∙◌}
use Rattle.atspi_match.specs.RuleIndex.{rules_of}
use Rattle.atspi_match.proofs.rule_index.RuleIndex.add.Goals as goal

pub put-requires : goal.put-requires
put-requires c full = c.if-rules_of-eq-MOST_RULES.false (c.rules_of.ensures ∙ ap (rules_of c.args.conn) (sym c.close_up.ensures) ∙ full)
