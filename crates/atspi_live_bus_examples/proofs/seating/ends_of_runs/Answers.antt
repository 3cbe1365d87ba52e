use Rattle.std.proofs.Common.{refl, inl, inr, lit<}
use Rattle.atspi_live_bus_examples.proofs.Linked.{counted_eight, eight_seven, five_seven, is_no_status, not_counted_seven, thirteen_seven}
use Rattle.atspi_live_bus_examples.proofs.seating.ends_of_runs.Goals as goal

pub returns-clause-no_memory : goal.returns-clause-no_memory
returns-clause-no_memory c = record { status_is = inl refl; by_host = λ e. absurd (five_seven e); no_host = inr refl }

pub returns-clause-host_failed : goal.returns-clause-host_failed
returns-clause-host_failed c = record { status_is = inr (inl refl); by_host = λ e. inl (lit< tt); no_host = inl refl }

pub returns-clause-failed_at_most : goal.returns-clause-failed_at_most
returns-clause-failed_at_most c = record { status_is = inr (inl refl); by_host = λ e. inr refl; no_host = inl refl }

pub returns-clause-rounds_done : goal.returns-clause-rounds_done
returns-clause-rounds_done c = record { status_is = inr (inr (inl refl)); by_host = λ e. absurd (eight_seven e); no_host = inr refl }

pub returns-clause-spent : goal.returns-clause-spent
returns-clause-spent c = record { status_is = inr (inr (inr refl)); by_host = λ e. absurd (thirteen_seven e); no_host = inr refl }

pub returns-clause-no_status : goal.returns-clause-no_status
returns-clause-no_status c e = is_no_status e

pub returns-clause-not_counted : goal.returns-clause-not_counted
returns-clause-not_counted c e = not_counted_seven e

pub returns-clause-counted : goal.returns-clause-counted
returns-clause-counted c e = counted_eight e
