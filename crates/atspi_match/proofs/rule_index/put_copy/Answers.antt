use Rattle.std.proofs.Common.{[], ◌++◌, subst}
use Rattle.std.specs.Prelude.{option_to_list}
use Rattle.atspi_match.specs.RuleIndex.{IsWithinLimit}
use Rattle.atspi_match.proofs.IndexLemmas.{room-before}
use Rattle.atspi_match.proofs.rule_index.put_copy.Goals as goal

pub put-requires : goal.put-requires
put-requires c =
    room-before c.args.copy.now [] c.in-Some.pair (subst (λ o. IsWithinLimit (c.args.copy.now ++ option_to_list o)) c.in-Some.is c.requires)
