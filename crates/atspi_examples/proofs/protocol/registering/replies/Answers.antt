use Rattle.std.proofs.Common.{◌≡◌, ℕ, List, Option, [], ◌∷◌, Some, refl, ap, ◌∙◌, arith}
use Rattle.std.specs.Prelude.{codes, length, unwrap_or}
use Rattle.atspi_message.specs.Envelope.{Envelope}
use Rattle.atspi_protocol.specs.ends.Messages.{return_to}
use Rattle.atspi_protocol.specs.registering.Laws.{AreOneReply}
use Rattle.atspi_protocol.specs.registering.Room.{two_}
use Rattle.atspi_examples.proofs.protocol.registering.replies.Goals as goal

one : (es : List Envelope) (caller : List ℕ) (serial : ℕ) → AreOneReply es caller serial → length es ≡ 1
one es caller serial r = ap (λ (es : List Envelope). length es) r.alone

same : (e f : Envelope) → e ∷ [] ≡ f ∷ [] → e ≡ f
same e f h = cc

pub returns-clause-among : goal.returns-clause-among
returns-clause-among c = refl

pub returns-clause-one : goal.returns-clause-one
returns-clause-one c = record { reply = return_to two_ 5 []; alone = refl; to = refl; with_ = refl }

pub returns-clause-none : goal.returns-clause-none
returns-clause-none c r = omega (arith, one [] two_ 5 r)

pub returns-clause-more : goal.returns-clause-more
returns-clause-more c r = omega (arith, one (return_to two_ 5 [] ∷ return_to two_ 5 [] ∷ []) two_ 5 r)

pub returns-clause-other_caller : goal.returns-clause-other_caller
returns-clause-other_caller c r = by (ap (λ (e : Envelope). e.destination) (same (return_to (codes ":1.20") 5 []) r.reply r.alone) ∙ r.to)
  where
    by : Some (codes ":1.20") ≡ Some (codes ":1.2") → ⊥
    by h = cc

pub returns-clause-other_number : goal.returns-clause-other_number
returns-clause-other_number c r = by (ap (λ (e : Envelope). unwrap_or e.reply 0) (same (return_to two_ 6 []) r.reply r.alone) ∙ ap (λ (n : Option ℕ). unwrap_or n 0) r.with_)
  where
    by : ◌≡◌ {A = ℕ} 6 5 → ⊥
    by h = omega (arith, h)
