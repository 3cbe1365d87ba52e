use Rattle.std.proofs.Common.{◌≡◌, ℕ, List, [], ◌∷◌, length, refl, sym, ap, ◌∙◌, inl, inr, arith, lit<}
use Rattle.atspi_auth.specs.Talk.{behind, client_start}
use Rattle.atspi_live_host.specs.declared.call.Call.{Call}
use Rattle.atspi_message.specs.Envelope.{Envelope}
use Rattle.atspi_stream.specs.Stream.{few}
use Rattle.atspi_live_conversation.proofs.LineLemmas.{none_behind}
use Rattle.atspi_live_conversation.proofs.SentLemmas.{none_parted}
use Rattle.atspi_live_app.specs.Pace.{GoesOn, HasWhole}
use Rattle.atspi_live_app.proofs.Passed.{empty_takes, first_is, passed, some_none}
use Rattle.atspi_live_app.proofs.examples.pacing.turns_ended.Goals as goal

nothing : HasWhole [] 0
nothing = ([], [], record { are = tt; parted = none_behind }, few (lit< tt), refl)

count_is : (count : ℕ) → HasWhole [] count → count ≡ 0
count_is count h = sym h.4 ∙ ap (λ (ms : List (Envelope × List ℕ)). length ms) (none_parted (behind client_start []) h.1 h.0 none_behind h.2)

some_call : {c : Call} {calls : List Call} → c ∷ calls ≡ [] → ⊥
some_call h = cc

pub returns-clause-stopped : goal.returns-clause-stopped
returns-clause-stopped c = (refl, refl)

pub returns-clause-stopped_waiting : goal.returns-clause-stopped_waiting
returns-clause-stopped_waiting c h = omega (arith, h.0)

pub returns-clause-stopped_marked : goal.returns-clause-stopped_marked
returns-clause-stopped_marked c h = some_none h.1

pub returns-clause-ended : goal.returns-clause-ended
returns-clause-ended c = (1, 1, 0, inr (refl, inl ([], refl, empty_takes, refl)), nothing)

pub returns-clause-ended_other : goal.returns-clause-ended_other
returns-clause-ended_other c h = by h.2 (count_is h.2 h.4) h.3
  where
    by : (count : ℕ) → count ≡ 0 → GoesOn (10 ∷ 120 ∷ []) 0 [] count 0 h.0 h.1 (3 ∷ []) → ⊥
    by count none (inl g) = omega (arith, g.0)
    by count none (inr g) = omega (arith, none, first_is (passed [] count h.0 h.1 (3 ∷ []) g.1).1)

pub returns-clause-no_call : goal.returns-clause-no_call
returns-clause-no_call c = refl

pub returns-clause-a_call : goal.returns-clause-a_call
returns-clause-a_call c h = some_call h

pub returns-clause-end : goal.returns-clause-end
returns-clause-end c = refl

pub returns-clause-no_end : goal.returns-clause-no_end
returns-clause-no_end c h = some_call (sym h)
