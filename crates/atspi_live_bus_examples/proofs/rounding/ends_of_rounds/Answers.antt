use Rattle.std.proofs.Common.{refl, inl}
use Rattle.atspi_live_bus_examples.proofs.Facts.{behind_all_rounds}
use Rattle.atspi_live_bus_examples.proofs.rounding.ends_of_rounds.Goals as goal

pub returns-clause-done : goal.returns-clause-done
returns-clause-done c x past = inl (refl, refl, refl, refl)

pub returns-clause-behind_all : goal.returns-clause-behind_all
returns-clause-behind_all c x y past calls e = behind_all_rounds x y past calls e
