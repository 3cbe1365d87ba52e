use Rattle.std.proofs.Common.{◌≡◌, ℕ, List, ◌++◌, ap, ◌∙◌, filter, map, not}
use Rattle.atspi_protocol.specs.exporting.Exporter.{Happening, hears, deaf}
use Rattle.atspi_protocol.specs.exporting.Hearing.{is_heard, firsts}
use Rattle.atspi_app_known.specs.hearing.Lent.{lent_pairs}
use Rattle.atspi_app_known.proofs.heard.exchange.exchanged.Goals as goal

pub returns-clause-told : goal.returns-clause-told
returns-clause-told c =
    let listed = lent_pairs c.args.listed.now in
    let base : lent_pairs c.deref.result.now ≡ c.args.heard.now = ap lent_pairs c.deref.ensures.value ∙ c.in_ok-pairs.ensures ∙ c.as_slice.ensures in
    let fallen = c.in_ok-parts.ensures.fallen ∙ ap (filter (λ (p : List ℕ × List ℕ). not (is_heard listed p))) base in
    let added = c.in_ok-parts.ensures.added ∙ ap (λ (h : List (List ℕ × List ℕ)). filter (λ (p : List ℕ × List ℕ). not (is_heard h p)) (firsts listed)) base in
    c.in_ok-told.ensures
    ∙ ap (λ (l : List (List ℕ × List ℕ)). map (λ (p : List ℕ × List ℕ). deaf p.0 p.1) l ++ map (λ (p : List ℕ × List ℕ). hears p.0 p.1) (lent_pairs c.in_ok-parts.parts.added.items)) fallen
    ∙ ap (λ (l : List (List ℕ × List ℕ)). map (λ (p : List ℕ × List ℕ). deaf p.0 p.1) (filter (λ (p : List ℕ × List ℕ). not (is_heard listed p)) c.args.heard.now) ++ map (λ (p : List ℕ × List ℕ). hears p.0 p.1) l) added
