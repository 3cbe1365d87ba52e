use Rattle.std.proofs.Common.{◌≡◌, ℕ, [], ◌∷◌, refl, ap, arith}
use Rattle.std.specs.Prelude.{codes}
use Rattle.atspi_auth.specs.declared.said.AuthLine.TheVariants.{Hail}
use Rattle.atspi_live_examples.proofs.conversation.going.beginnings.Goals as goal

pub returns-clause-begun : goal.returns-clause-begun
returns-clause-begun c = record { client = refl; feeder = refl; unsent = refl; heard = refl }

pub returns-clause-no_line : goal.returns-clause-no_line
returns-clause-no_line c b = by (ap (λ now. now.unsent) b.client)
  where
    by : [] ≡ Hail ∷ [] → ⊥
    by h = cc

pub returns-clause-bytes_held : goal.returns-clause-bytes_held
returns-clause-bytes_held c b = by b.feeder
  where
    by : codes "l" ≡ [] → ⊥
    by h = cc

pub returns-clause-bytes_wait : goal.returns-clause-bytes_wait
returns-clause-bytes_wait c b = by b.unsent
  where
    by : codes "l" ≡ [] → ⊥
    by h = cc

pub returns-clause-heard : goal.returns-clause-heard
returns-clause-heard c b = by b.heard
  where
    by : ◌≡◌ {A = ℕ} 1 0 → ⊥
    by h = omega (arith, h)

pub returns-clause-count : goal.returns-clause-count
returns-clause-count c = refl
