use Rattle.std.proofs.Common.{ℕ, List, ap, ◌∙◌, ◌++◌, ◌∷◌, [], cond}
use Rattle.std.specs.Prelude.{bytes_eq, ◌&&◌}
use Rattle.atspi_protocol.specs.exporting.Hearing.{is_heard}
use Rattle.atspi_app_known.specs.declared.hearing.pair_ref.PairRef.{PairRef}
use Rattle.atspi_app_known.specs.hearing.Lent.{lent_pair, lent_pairs}
use Rattle.atspi_app_known.proofs.OfHeard.Lent.{lent_eq, put_lent}
use Rattle.atspi_app_known.proofs.heard.set.PairSet.put.Goals as goal

pub returns : goal.returns
returns c =
    ap lent_pairs c.in_ok-insert.ensures.keys
    ∙ put_lent (λ (y z : PairRef). bytes_eq y.name.now z.name.now && bytes_eq y.pattern.now z.pattern.now) lent_eq c.self.inside.pairs.keys c.args.pair
    ∙ ap (λ (l : List (List ℕ × List ℕ)). cond (is_heard l (lent_pair c.args.pair)) l (l ++ lent_pair c.args.pair ∷ [])) c.self.view_is
