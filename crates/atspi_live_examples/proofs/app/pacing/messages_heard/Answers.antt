use Rattle.std.proofs.Common.{ℕ, List, [], length, refl, ap, arith, lit<}
use Rattle.atspi_auth.specs.Talk.{behind, client_start}
use Rattle.atspi_message.specs.Envelope.{Envelope}
use Rattle.atspi_stream.specs.Stream.{few}
use Rattle.atspi_live_conversation.proofs.LineLemmas.{none_behind}
use Rattle.atspi_live_conversation.proofs.SentLemmas.{none_parted}
use Rattle.atspi_live_app.specs.Pace.{HasWhole}
use Rattle.atspi_live_examples.proofs.app.pacing.messages_heard.Goals as goal

nothing : HasWhole [] 0
nothing = ([], [], record { are = tt; parted = none_behind }, few (lit< tt), refl)

not_one : HasWhole [] 1 → ⊥
not_one h = omega (arith, h.4, ap (λ (ms : List (Envelope × List ℕ)). length ms) (none_parted (behind client_start []) h.1 h.0 none_behind h.2))

pub returns-clause-none : goal.returns-clause-none
returns-clause-none c = nothing

pub returns-clause-not_one : goal.returns-clause-not_one
returns-clause-not_one c h = not_one h

pub returns-clause-untold : goal.returns-clause-untold
returns-clause-untold c = tt

pub returns-clause-told : goal.returns-clause-told
returns-clause-told c = nothing

pub returns-clause-told_other : goal.returns-clause-told_other
returns-clause-told_other c h = not_one h
