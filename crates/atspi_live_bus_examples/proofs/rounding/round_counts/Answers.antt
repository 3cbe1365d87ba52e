use Rattle.std.proofs.Common.{refl}
use Rattle.atspi_live_bus_examples.proofs.Facts.{not_given_yet}
use Rattle.atspi_live_bus_examples.proofs.rounding.round_counts.Goals as goal

pub returns-clause-none : goal.returns-clause-none
returns-clause-none c x past = (refl, refl)

pub returns-clause-none_calls : goal.returns-clause-none_calls
returns-clause-none_calls c x y past calls a = a.0

pub returns-clause-none_same : goal.returns-clause-none_same
returns-clause-none_same c x y past calls a = a.1

pub returns-clause-not_seated : goal.returns-clause-not_seated
returns-clause-not_seated c x = (3, refl, refl)

pub returns-clause-not_given : goal.returns-clause-not_given
returns-clause-not_given c x y n = not_given_yet n.0 n.1

pub returns-clause-same : goal.returns-clause-same
returns-clause-same c x y calls n = n.2
