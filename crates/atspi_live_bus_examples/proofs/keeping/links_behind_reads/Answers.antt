use Rattle.std.proofs.Common.{[], refl, inl, inr}
use Rattle.atspi_auth.specs.declared.fault.AuthFault.TheVariants.{NoZero}
use Rattle.atspi_live_bus.proofs.Worked.{goes_on}
use Rattle.atspi_live_bus_examples.proofs.Facts.{no_zero}
use Rattle.atspi_live_bus_examples.proofs.Kept.{none_given, said_before_fault, said_none, said_nothing}
use Rattle.atspi_live_bus_examples.proofs.keeping.links_behind_reads.Goals as goal

pub returns-clause-goes_on : goal.returns-clause-goes_on
returns-clause-goes_on c l talks = (goes_on, talks)

pub returns-clause-ended : goal.returns-clause-ended
returns-clause-ended c l r = r.0 (inl refl)

pub returns-clause-gave : goal.returns-clause-gave
returns-clause-gave c l r = none_given [] [] l r.1

pub returns-clause-lost : goal.returns-clause-lost
returns-clause-lost c l talks = (inl refl, said_nothing)

pub returns-clause-not_lost : goal.returns-clause-not_lost
returns-clause-not_lost c l r = goes_on r.0

pub returns-clause-lost_gave : goal.returns-clause-lost_gave
returns-clause-lost_gave c l r = said_none [] [] r.1

pub returns-clause-handed : goal.returns-clause-handed
returns-clause-handed c l t talks on = (on, talks)

pub returns-clause-at_fault : goal.returns-clause-at_fault
returns-clause-at_fault c l r = r.0 (inr (inr (NoZero, no_zero)))

pub returns-clause-lost_by_fault : goal.returns-clause-lost_by_fault
returns-clause-lost_by_fault c l talks = (inr (inr (NoZero, no_zero)), said_before_fault)
