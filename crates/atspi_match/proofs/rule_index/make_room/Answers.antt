use Rattle.std.proofs.Common.{◌≡◌, ◌+◌, ap, sym, ◌∙◌, subst, length, arith}
use Rattle.std.proofs.lemmas.Result.{on_ok_weaker}
use Rattle.atspi_match.specs.Counts.{count_in, SetsCount}
use Rattle.atspi_match.specs.RuleGroups.{IsNoted}
use Rattle.std.specs.Prelude.{OnOk}
use Rattle.atspi_match.proofs.rule_index.make_room.Goals as goal

pub returns-clause-counted : goal.returns-clause-counted
returns-clause-counted c =
    on_ok_weaker c.set.result (λ s. subst (λ n. SetsCount c.args.counts.now.counts c.set.new.self.counts c.args.conn (n + 1)) c.of-count.ensures s) c.set.ensures.ok
