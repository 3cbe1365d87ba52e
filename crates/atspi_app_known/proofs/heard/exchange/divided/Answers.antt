use Rattle.std.proofs.Common.{ℕ, List, ap, ◌∙◌, filter, not}
use Rattle.std.proofs.lemmas.Result.{IfOk-weaker}
use Rattle.atspi_protocol.specs.exporting.Hearing.{is_heard, firsts}
use Rattle.atspi_app_known.specs.hearing.Lent.{lent_pairs}
use Rattle.atspi_app_known.proofs.OfHeard.Firsts.{filter_by_firsts, filter_not_firsts}
use Rattle.atspi_app_known.proofs.heard.exchange.divided.Goals as goal

pub returns-clause-kept : goal.returns-clause-kept
returns-clause-kept c =
    IfOk-weaker c.parts_of.result _ _ (λ x h.
    h
    ∙ ap (λ (s : List (List ℕ × List ℕ)). filter (is_heard s) (lent_pairs c.args.pairs.now)) c.in_ok-now.ensures
    ∙ filter_by_firsts (lent_pairs c.args.listed.now) (lent_pairs c.args.pairs.now)) c.parts_of.ensures.kept

pub returns-clause-fallen : goal.returns-clause-fallen
returns-clause-fallen c =
    IfOk-weaker c.parts_of.result _ _ (λ x h.
    h
    ∙ ap (λ (s : List (List ℕ × List ℕ)). filter (λ p. not (is_heard s p)) (lent_pairs c.args.pairs.now)) c.in_ok-now.ensures
    ∙ filter_not_firsts (lent_pairs c.args.listed.now) (lent_pairs c.args.pairs.now)) c.parts_of.ensures.fallen

pub returns-clause-added : goal.returns-clause-added
returns-clause-added c =
    IfOk-weaker c.parts_of.result _ _ (λ x h.
    h
    ∙ ap (λ (l : List (List ℕ × List ℕ)). filter (λ p. not (is_heard c.in_ok-before.before p)) l) c.in_ok-now.ensures
    ∙ ap (λ (s : List (List ℕ × List ℕ)). filter (λ p. not (is_heard s p)) (firsts (lent_pairs c.args.listed.now))) c.in_ok-before.ensures
    ∙ filter_not_firsts (lent_pairs c.args.pairs.now) (firsts (lent_pairs c.args.listed.now))) c.parts_of.ensures.added
