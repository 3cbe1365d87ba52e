use Rattle.std.proofs.Common.{refl, inl, inr}
use Rattle.atspi_auth.specs.declared.fault.AuthFault.TheVariants.{NoZero}
use Rattle.atspi_live_bus.proofs.Worked.{goes_on}
use Rattle.atspi_live_bus_examples.proofs.Facts.{no_zero}
use Rattle.atspi_live_bus_examples.proofs.closing.lost_links.Goals as goal

pub returns-clause-ended : goal.returns-clause-ended
returns-clause-ended c = inl refl

pub returns-clause-failed : goal.returns-clause-failed
returns-clause-failed c = inr (inl refl)

pub returns-clause-at_fault : goal.returns-clause-at_fault
returns-clause-at_fault c = inr (inr (NoZero, no_zero))

pub returns-clause-quiet : goal.returns-clause-quiet
returns-clause-quiet c lost = goes_on lost
