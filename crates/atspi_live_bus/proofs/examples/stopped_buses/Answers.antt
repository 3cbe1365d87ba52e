use Rattle.std.proofs.Common.{[], refl}
use Rattle.atspi_live_bus.proofs.Worked.{nothing_passed}
use Rattle.atspi_live_bus.proofs.Stopping.{given_unasked, not_spent_host, not_spent_memory, nothing_served, some_byte}
use Rattle.atspi_live_bus.proofs.examples.stopped_buses.Goals as goal

pub returns-clause-host : goal.returns-clause-host
returns-clause-host c = nothing_served

pub returns-clause-memory : goal.returns-clause-memory
returns-clause-memory c = nothing_served

pub returns-clause-last_number : goal.returns-clause-last_number
returns-clause-last_number c cs s = s

pub returns-clause-not_spent : goal.returns-clause-not_spent
returns-clause-not_spent c cs none s = none s

pub returns-clause-host_gave : goal.returns-clause-host_gave
returns-clause-host_gave c s = given_unasked s

pub returns-clause-memory_gave : goal.returns-clause-memory_gave
returns-clause-memory_gave c s = given_unasked s

pub returns-clause-at_host : goal.returns-clause-at_host
returns-clause-at_host c = (nothing_passed [] (λ k. refl) (λ k. refl), λ e. absurd (not_spent_host e))

pub returns-clause-at_memory : goal.returns-clause-at_memory
returns-clause-at_memory c = (nothing_passed [] (λ k. refl) (λ k. refl), λ e. absurd (not_spent_memory e))

pub returns-clause-at_last : goal.returns-clause-at_last
returns-clause-at_last c x course spends = (course, λ e. spends)

pub returns-clause-at_none_last : goal.returns-clause-at_none_last
returns-clause-at_none_last c x none s = none (s.1 refl)

pub returns-clause-other_calls : goal.returns-clause-other_calls
returns-clause-other_calls c s = some_byte 7 [] (s.0.said 3).1
