use Rattle.std.proofs.Common.{◌≡◌, true, false, List, ℕ, [], ◌∷◌, ◌++◌, Some, refl, ◌∙◌, arith}
use Rattle.std.specs.Prelude.{codes}
use Rattle.atspi_live_conversation.specs.declared.ending.Ending.TheVariants as endings
use Rattle.atspi_live_reader.proofs.Started.{first_is, tail_is}
use Rattle.atspi_live_reader.proofs.examples.written.muted_readers.Goals as goal

pub returns-clause-wanting : goal.returns-clause-wanting
returns-clause-wanting c l = (refl, refl)

pub returns-clause-other_ending : goal.returns-clause-other_ending
returns-clause-other_ending c l m = by m.0
  where
    by : endings.Spent ≡ endings.NoMemory → ⊥
    by h = cc

pub returns-clause-wanting_written : goal.returns-clause-wanting_written
returns-clause-wanting_written c l m = by m.1
  where
    by : Some (codes "ab") ≡ Some (codes "a") → ⊥
    by h = cc

pub returns-clause-part : goal.returns-clause-part
returns-clause-part c l = (refl, (codes "b", codes "c", refl, refl))

pub returns-clause-other : goal.returns-clause-other
returns-clause-other c l m = by m.1.0 m.1.1 m.1.2 m.1.3
  where
    other : ◌≡◌ {A = ℕ} 99 98 → ⊥
    other h = omega (arith, h)

    by : (part more : List ℕ) → part ++ more ≡ codes "bc" → codes "ac" ≡ codes "a" ++ part → ⊥
    by [] more h is = cc
    by (b ∷ part) more h is = other (first_is (tail_is is) ∙ first_is h)

pub returns-clause-starved : goal.returns-clause-starved
returns-clause-starved c l m = by m.0
  where
    by : true ≡ false → ⊥
    by h = cc
