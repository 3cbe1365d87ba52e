use Rattle.std.proofs.Common.{◌≡◌, ℕ, [], ◌∷◌, refl, arith}
use Rattle.std.specs.Prelude.{codes}
use Rattle.atspi_auth.specs.Talk.{client_start}
use Rattle.atspi_auth.specs.declared.said.AuthLine.TheVariants.{Begin}
use Rattle.atspi_live_examples.proofs.conversation.going.uttered.Goals as goal
use Rattle.atspi_auth.specs.declared.stage.Stage.TheVariants.{Over}

pub returns-clause-all : goal.returns-clause-all
returns-clause-all c = record { lines = refl; none_left = λ none done. refl }

pub returns-clause-message_left : goal.returns-clause-message_left
returns-clause-message_left c u = by (u.none_left refl refl)
  where
    by : ◌≡◌ {A = ℕ} 1 0 → ⊥
    by h = omega (arith, h)

pub returns-clause-line_left : goal.returns-clause-line_left
returns-clause-line_left c u = by u.lines
  where
    by : Begin ∷ [] ≡ [] → ⊥
    by h = cc

pub returns-clause-bytes_wait : goal.returns-clause-bytes_wait
returns-clause-bytes_wait c = record { lines = refl; none_left = λ none done. absurd (by none) }
  where
    by : codes "l" ≡ [] → ⊥
    by h = cc

pub returns-clause-not_over : goal.returns-clause-not_over
returns-clause-not_over c = record { lines = refl; none_left = λ none done. absurd (by done) }
  where
    by : client_start.stage ≡ Over → ⊥
    by h = cc
