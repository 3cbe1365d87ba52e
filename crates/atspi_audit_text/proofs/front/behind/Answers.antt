use Rattle.std.proofs.Common.{◌≡◌, ℕ, List, ◌++◌, MatchOption, subst, ◌∙◌}
use Rattle.std.proofs.lemmas.Bool.Decides.{Decides-eqb}
use Rattle.std.proofs.lemmas.Slice.Eq.{strip_prefix_is}
use Rattle.atspi_audit_text.proofs.front.behind.Goals as goal

pub returns : goal.returns
returns c =
    let text = c.args.text.now in
    subst (λ (p : List ℕ). MatchOption c.strip_prefix.result ((rest : List ℕ) → text ≡ p ++ rest → ⊥) (λ rest. text ≡ p ++ rest.now)) (c.as_slice.ensures ∙ c.in_ok-own.ensures)
    (strip_prefix_is Decides-eqb text c.as_slice.result.now c.strip_prefix.result c.strip_prefix.ensures.cases)
