use Rattle.std.proofs.Common.{ap}
use Rattle.atspi_match.specs.Slots.{held_in}
use Rattle.atspi_match.proofs.IndexedLemmas.{indexed-none}
use Rattle.atspi_match.proofs.rule_index.RuleIndex.new.Goals as goal

pub invariant_of-result : goal.invariant_of-result
invariant_of-result c =
    indexed-none c.new-slots.result.items c.new.result c.new-counts.result c.new-slots.ensures.items c.new-counts.ensures

pub returns : goal.returns
returns c = ap held_in c.new-slots.ensures.items
