use Rattle.std.proofs.Common.{◌≡◌, List, ℕ, [], ◌∷◌, ◌++◌, refl, ap, ◌∙◌}
use Rattle.std.specs.Prelude.{codes}
use Rattle.atspi_live_host.specs.declared.call.Call.TheVariants.{Close}
use Rattle.atspi_live_examples.proofs.conversation.steps.later_calls.Goals as goal

pub returns-clause-makes : goal.returns-clause-makes
returns-clause-makes c = (Close 1 ∷ [], refl, refl)

pub returns-clause-makes_other : goal.returns-clause-makes_other
returns-clause-makes_other c m = m.1

pub returns-clause-grows : goal.returns-clause-grows
returns-clause-grows c = (codes "b", refl)

pub returns-clause-shrinks : goal.returns-clause-shrinks
returns-clause-shrinks c g = by g.0 g.1
  where
    by : (rest : List ℕ) → codes "a" ++ rest ≡ [] → ⊥
    by rest h = cc

pub returns-clause-gives_part : goal.returns-clause-gives_part
returns-clause-gives_part c = (codes "a", (refl, refl, refl), refl)

pub returns-clause-keeps_all : goal.returns-clause-keeps_all
returns-clause-keeps_all c g = by (ap (λ (part : List ℕ). part ++ codes "abc") g.1.1 ∙ g.2)
  where
    by : codes "aabc" ≡ codes "abc" → ⊥
    by h = cc
