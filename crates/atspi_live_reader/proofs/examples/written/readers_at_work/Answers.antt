use Rattle.std.proofs.Common.{◌≡◌, ◌+◌, List, ℕ, ◌++◌, refl, subst, arith}
use Rattle.std.specs.Prelude.{codes}
use Rattle.atspi_live_conversation.specs.Talking.{Going}
use Rattle.atspi_live_reader.specs.Following.{Stands}
use Rattle.atspi_live_reader.proofs.Started.{first_is}
use Rattle.atspi_live_reader.proofs.examples.written.readers_at_work.Goals as goal

pub returns-clause-stands : goal.returns-clause-stands
returns-clause-stands c written l took said s = s

pub returns-clause-spent : goal.returns-clause-spent
returns-clause-spent c l e s = s

pub returns-clause-not_spent : goal.returns-clause-not_spent
returns-clause-not_spent c l e never s = never s

pub returns-clause-goes : goal.returns-clause-goes
returns-clause-goes d k calls calls' c c' l m goes = record { line = codes "b"; wrote = refl; goes = goes }

pub returns-clause-goes_other : goal.returns-clause-goes_other
returns-clause-goes_other d k calls calls' c c' l m g = by (first_is g.wrote)
  where
    by : ◌≡◌ {A = ℕ} 98 97 → ⊥
    by h = omega (arith, h)

-- the line that was written
line_is : {line : List ℕ} → codes "ab" ≡ codes "a" ++ line → line ≡ codes "b"
line_is h = cc

pub returns-clause-goes_so : goal.returns-clause-goes_so
returns-clause-goes_so d k calls calls' c c' l m g written n going =
    subst (λ (w : List ℕ). Going (Stands (written ++ w)) k calls' (n + 1) c' m) (line_is {line = g.line} g.wrote) (g.goes written n going)
