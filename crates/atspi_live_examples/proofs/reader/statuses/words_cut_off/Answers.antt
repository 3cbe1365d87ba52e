use Rattle.std.proofs.Common.{◌≡◌, List, ℕ, [], ◌∷◌, ◌++◌, inl, inr, refl}
use Rattle.std.specs.Prelude.{codes}
use Rattle.atspi_live_examples.proofs.reader.statuses.words_cut_off.Goals as goal

pub returns-clause-cut : goal.returns-clause-cut
returns-clause-cut c = inr (inl refl, (codes "b", codes "c", refl, refl))

pub returns-clause-other_words : goal.returns-clause-other_words
returns-clause-other_words c p = by p.1.0 p.1.1 p.1.2 p.1.3
  where
    by : (part more : List ℕ) → part ++ more ≡ 1 ∷ [] → 0 ∷ [] ≡ part → ⊥
    by part more h is = cc
