use Rattle.std.proofs.Common.{rules, ℕ, List, [], ◌∷◌, ◌++◌, take, cond, sym, ap, ◌∙◌}
use Rattle.atspi_protocol.specs.exporting.Hearing.{firsts, is_heard}
use Rattle.atspi_app_known.specs.hearing.Lent.{lent_pair, lent_pairs}
use Rattle.atspi_app_known.proofs.OfHeard.Firsts.{firsts_more}
use Rattle.atspi_app_known.proofs.OfHeard.Lent.{lent_take}
use Rattle.atspi_app_known.proofs.heard.set.set_of.Goals as goal

pub loop-pair-preserved : goal.loop-pair-preserved
loop-pair-preserved c =
    let p = lent_pair c.pair-item.result in
    c.in_ok-put.ensures
    ∙ ap (λ (s : List (List ℕ × List ℕ)). cond (is_heard s p) s (s ++ p ∷ [])) c.loop-pair.invariant
    ∙ firsts_more (lent_pairs (take c.loop-pair.pair-index c.args.pairs.now)) p
    ∙ ap firsts (sym (lent_take c.args.pairs.now c.loop-pair.pair-index c.pair-item.result (search rules) c.pair-item.is))
