use Rattle.std.proofs.Common.{refl, inl, inr}
use Rattle.atspi_live_host.specs.declared.call.Did.TheVariants.{Failed}
use Rattle.atspi_live_host.specs.declared.call.Call.TheVariants.{Accept}
use Rattle.atspi_live_bus.specs.Course.{start}
use Rattle.atspi_live_bus.proofs.Stopping.{failed_round, failed_unseated, joined_not_start, joining_round, no_accept, waiting_round, waits_failed}
use Rattle.atspi_live_bus.proofs.examples.last_rounds.Goals as goal

pub returns-clause-host : goal.returns-clause-host
returns-clause-host c = (refl, refl)

pub returns-clause-no_call : goal.returns-clause-no_call
returns-clause-no_call c b = no_accept (Accept Failed) b.0

pub returns-clause-not_failed : goal.returns-clause-not_failed
returns-clause-not_failed c b = waits_failed b.0

pub returns-clause-changed : goal.returns-clause-changed
returns-clause-changed c b = joined_not_start b.1

pub returns-clause-spent : goal.returns-clause-spent
returns-clause-spent c x spends = (waiting_round x, spends)

pub returns-clause-not_spent : goal.returns-clause-not_spent
returns-clause-not_spent c x none b = none b.1

pub returns-clause-spent_failed : goal.returns-clause-spent_failed
returns-clause-spent_failed c y b = failed_round start y b.0

pub returns-clause-memory : goal.returns-clause-memory
returns-clause-memory c = inl (waiting_round start)

pub returns-clause-not_joined : goal.returns-clause-not_joined
returns-clause-not_joined c = inr (3, refl, refl)

pub returns-clause-memory_failed : goal.returns-clause-memory_failed
returns-clause-memory_failed c y b = elim b [ inl r ↦ failed_round start y r | inr n ↦ failed_unseated start y n ]

pub returns-clause-spent_joined : goal.returns-clause-spent_joined
returns-clause-spent_joined c spends = (joining_round, spends)

pub returns-clause-memory_joined : goal.returns-clause-memory_joined
returns-clause-memory_joined c = inl joining_round
