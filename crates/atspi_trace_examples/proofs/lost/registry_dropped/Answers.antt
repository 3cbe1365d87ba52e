use Rattle.std.proofs.Common.{refl, subst, List, [], ◌∷◌}
use Rattle.atspi_trace.specs.Entry.{Entry}
use Rattle.atspi_trace_examples.proofs.lost.registry_dropped.Goals as goal

pub returns-clause-last : goal.returns-clause-last
returns-clause-last c = refl

pub returns-clause-followed : goal.returns-clause-followed
returns-clause-followed c h = subst (λ (l : List Entry). some l) h tt
  where
    some : List Entry → Type 0
    some [] = ⊥
    some (e ∷ es) = Unit {0}

pub returns-clause-of_another : goal.returns-clause-of_another
returns-clause-of_another c = tt

pub returns-clause-other_entry : goal.returns-clause-other_entry
returns-clause-other_entry c = tt
