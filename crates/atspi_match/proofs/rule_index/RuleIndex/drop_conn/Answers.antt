use Rattle.std.proofs.Common.{ap, ◌∙◌}
use Rattle.atspi_match.specs.RuleIndex.{without_rules}
use Rattle.atspi_match.proofs.IndexedLemmas.{indexed-dropped}
use Rattle.atspi_match.proofs.rule_index.RuleIndex.drop_conn.Goals as goal

pub empty_all-requires : goal.empty_all-requires
empty_all-requires c = c.self.invariant.noted

pub invariant_of-self : goal.invariant_of-self
invariant_of-self c =
    indexed-dropped c.self.inside.slots.items c.empty_all.new.slots.items c.self.inside.groups c.empty_all.new.groups c.self.inside.counts c.drop_conn.new.self
    c.args.conn c.self.invariant c.empty_all.ensures.held c.empty_all.ensures.noted c.drop_conn.ensures

pub returns : goal.returns
returns c = c.empty_all.ensures.held ∙ ap (without_rules c.args.conn) c.self.view_is
