use Rattle.std.proofs.Common.{◌≡◌, ℕ, List, [], ◌∷◌, length, refl, sym, ap, subst, ◌∙◌, append-nil, arith}
use Rattle.atspi_live_host.specs.declared.call.Did.TheVariants.{NotYet}
use Rattle.atspi_live_host.specs.declared.call.Did.{Did}
use Rattle.atspi_live_conversation.specs.Moved.{AllGoOn}
use Rattle.atspi_live_conversation.specs.Talking.{Converses}
use Rattle.atspi_live_examples.specs.conversation.Logs.{hailed}
use Rattle.atspi_live_examples.specs.conversation.Silent.{Says, hail}
use Rattle.atspi_live_examples.proofs.OfConversation.Conversing as conversing
use Rattle.atspi_live_examples.proofs.conversation.going.rounds_done.Goals as goal

pub returns-clause-none : goal.returns-clause-none
returns-clause-none c = conversing.going

pub returns-clause-one : goal.returns-clause-one
returns-clause-one c = record { t = []; g = hail; dids = NotYet ∷ []; tells = (refl, refl, refl); go_on = (tt, tt); counted = refl; at_ease = conversing.at_ease_on hail [] (append-nil hail) }

pub returns-clause-untold : goal.returns-clause-untold
returns-clause-untold c = record { t = []; g = []; dids = NotYet ∷ []; tells = tt; go_on = (tt, tt); counted = refl; at_ease = conversing.at_ease }

pub returns-clause-not_given : goal.returns-clause-not_given
returns-clause-not_given c s = by s.t s.g s.tells.0 s.tells.1 s.at_ease.converses
  where
    none : [] ≡ hail → ⊥
    none h = cc

    by : (t g : List ℕ) → [] ≡ t → [] ≡ g → Converses Says t g hailed 0 → ⊥
    by t g taken given s =
        none (conversing.line_given [] [] (subst (λ (g : List ℕ). Converses Says [] g hailed 0) (sym given) (subst (λ (t : List ℕ). Converses Says t g hailed 0) (sym taken) s)))

pub returns-clause-read_ended : goal.returns-clause-read_ended
returns-clause-read_ended c s = (subst (λ (dids : List Did). AllGoOn dids) (sym s.tells.2) s.go_on).0

pub returns-clause-more_reads : goal.returns-clause-more_reads
returns-clause-more_reads c s = by (ap (λ (dids : List Did). length dids) s.tells.2 ∙ s.counted)
  where
    by : ◌≡◌ {A = ℕ} 1 0 → ⊥
    by h = omega (arith, h)

pub returns-clause-stands_nowhere : goal.returns-clause-stands_nowhere
returns-clause-stands_nowhere c s = s.at_ease.converses.end_stands
