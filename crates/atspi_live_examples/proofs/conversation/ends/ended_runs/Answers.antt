use Rattle.std.proofs.Common.{◌≡◌, ℕ, [], ◌∷◌, refl}
use Rattle.atspi_live_host.specs.declared.call.Did.TheVariants.{Done}
use Rattle.atspi_live_examples.proofs.OfConversation.Ended.{not_refused, over, refused}
use Rattle.atspi_live_examples.proofs.conversation.ends.ended_runs.Goals as goal

pub returns-clause-refused : goal.returns-clause-refused
returns-clause-refused c = (refused, (tt, tt))

pub returns-clause-not_refused : goal.returns-clause-not_refused
returns-clause-not_refused c s = not_refused s.0

pub returns-clause-peer_ended : goal.returns-clause-peer_ended
returns-clause-peer_ended c = (over, (Done 43 ∷ [], refl, (tt, tt)))

pub returns-clause-host_failed : goal.returns-clause-host_failed
returns-clause-host_failed c = over

pub returns-clause-one_done : goal.returns-clause-one_done
returns-clause-one_done c = (over, (tt, tt), refl)

pub returns-clause-not_done : goal.returns-clause-not_done
returns-clause-not_done c s = by s.2
  where
    by : ◌≡◌ {A = ℕ} 1 5 → ⊥
    by h = cc
