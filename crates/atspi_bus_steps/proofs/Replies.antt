-- The reply to a call.
use Rattle.std.proofs.Common.{◌≡◌, ℕ, true, false, cond, [], ◌∷◌, ap}
use Rattle.atspi_message.specs.Envelope.{Envelope}
use Rattle.atspi_match.specs.routing.BusState.{BusState}
use Rattle.atspi_match.specs.routing.Answers.{Reply, returns, fails}
use Rattle.atspi_match.specs.routing.Routing.{expects_reply}
use Rattle.atspi_match.specs.routing.Steps.{replies}
use Rattle.atspi_bus_steps.specs.Sayable.{reply_message}

pub replied : (s : BusState) (conn : ℕ) (e : Envelope) (reply : Reply) → expects_reply e ≡ true → replies s conn e reply ≡ reply_message s conn e.serial reply ∷ []
replied s conn e (returns values) is = ap (λ b. cond b (reply_message s conn e.serial (returns values) ∷ []) []) is
replied s conn e (fails name) is = ap (λ b. cond b (reply_message s conn e.serial (fails name) ∷ []) []) is

pub unreplied : (s : BusState) (conn : ℕ) (e : Envelope) (reply : Reply) → expects_reply e ≡ false → replies s conn e reply ≡ []
unreplied s conn e (returns values) is = ap (λ b. cond b (reply_message s conn e.serial (returns values) ∷ []) []) is
unreplied s conn e (fails name) is = ap (λ b. cond b (reply_message s conn e.serial (fails name) ∷ []) []) is
