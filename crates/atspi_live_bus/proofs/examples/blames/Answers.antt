use Rattle.std.proofs.Common.{refl, inl, inr, lit<, lit≤}
use Rattle.atspi_live_bus.proofs.Stopping.{fell, four_three, not_raised}
use Rattle.atspi_live_bus.proofs.examples.blames.Goals as goal

pub returns-clause-failed : goal.returns-clause-failed
returns-clause-failed c = (lit≤ tt, inl (lit< tt))

pub returns-clause-at_most : goal.returns-clause-at_most
returns-clause-at_most c = (lit≤ tt, inr refl)

pub returns-clause-not_counted : goal.returns-clause-not_counted
returns-clause-not_counted c s = not_raised s

pub returns-clause-fewer : goal.returns-clause-fewer
returns-clause-fewer c s = fell s

pub returns-clause-spent : goal.returns-clause-spent
returns-clause-spent c = refl

pub returns-clause-spent_counted : goal.returns-clause-spent_counted
returns-clause-spent_counted c e = four_three e

pub returns-clause-memory : goal.returns-clause-memory
returns-clause-memory c = refl

pub returns-clause-memory_counted : goal.returns-clause-memory_counted
returns-clause-memory_counted c e = four_three e
