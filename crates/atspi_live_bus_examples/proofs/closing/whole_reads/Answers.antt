use Rattle.std.proofs.Common.{[], refl, inl, inr, lit<}
use Rattle.atspi_auth.specs.declared.fault.AuthFault.TheVariants.{NoZero}
use Rattle.atspi_stream.specs.Stream.{few}
use Rattle.atspi_live_bus.proofs.Worked.{goes_on, none_behind}
use Rattle.atspi_live_bus_examples.proofs.Facts.{failed_closes, no_zero}
use Rattle.atspi_live_bus_examples.proofs.closing.whole_reads.Goals as goal

pub returns-clause-at_fault : goal.returns-clause-at_fault
returns-clause-at_fault c x y step = inl (inr (inr (NoZero, no_zero)), ([], [], step, refl, refl))

pub returns-clause-quiet : goal.returns-clause-quiet
returns-clause-quiet c x none = inr (goes_on, ([], x, [], [], (refl, refl), ([], ([], record { are = tt; parted = none_behind }, none), inr (inl (inl refl, few (lit< tt), refl, refl))), refl))

pub returns-clause-not_closed : goal.returns-clause-not_closed
returns-clause-not_closed c x y w = failed_closes x y w
