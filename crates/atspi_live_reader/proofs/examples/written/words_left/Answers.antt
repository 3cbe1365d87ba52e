use Rattle.std.proofs.Common.{◌≡◌, ◌⊎◌, true, false, List, ℕ, ◌++◌, refl, ap, inl, inr, arith}
use Rattle.std.specs.Prelude.{codes}
use Rattle.atspi_reader.specs.ReaderOf.{reader_of}
use Rattle.atspi_live_reader.specs.Shows.{shown_in}
use Rattle.atspi_live_reader.proofs.Started.{first_is, lines_told}
use Rattle.atspi_live_reader.proofs.examples.written.words_left.Goals as goal

pub returns-clause-kept : goal.returns-clause-kept
returns-clause-kept c l out = inr (ap (λ (w : List ℕ). codes "a" ++ w) (lines_told out))

pub returns-clause-shown : goal.returns-clause-shown
returns-clause-shown c l out = inr (ap (λ (w : List ℕ). codes "a" ++ (w ++ shown_in (reader_of l.reader))) (lines_told out))

pub returns-clause-unknown : goal.returns-clause-unknown
returns-clause-unknown c l = inl refl

pub returns-clause-other : goal.returns-clause-other
returns-clause-other c l h = by h
  where
    other : ◌≡◌ {A = ℕ} 120 97 → ⊥
    other h = omega (arith, h)

    by : {w : List ℕ} → (false ≡ true) ⊎ (codes "x" ≡ codes "a" ++ w) → ⊥
    by (inl h) = cc
    by (inr h) = other (first_is h)
