use Rattle.std.proofs.Common.{[], ◌∷◌, sym}
use Rattle.atspi_live_host.specs.declared.call.Call.TheVariants.{Close}
use Rattle.atspi_live_bus.proofs.Worked.{both_shut, is_shut, none_shut, not_none, other_close, second_shut}
use Rattle.atspi_live_bus.proofs.examples.closes.Goals as goal

pub returns-clause-its_link : goal.returns-clause-its_link
returns-clause-its_link c x e = second_shut x e

pub returns-clause-in_order : goal.returns-clause-in_order
returns-clause-in_order c x y e f = both_shut x y e f

pub returns-clause-no_link : goal.returns-clause-no_link
returns-clause-no_link c x e = none_shut x e

pub returns-clause-no_cause : goal.returns-clause-no_cause
returns-clause-no_cause c s = not_none (Close 3) [] (sym s)

pub returns-clause-not_closed : goal.returns-clause-not_closed
returns-clause-not_closed c x e s = not_none (Close 5) [] (is_shut x [] e s)

pub returns-clause-another : goal.returns-clause-another
returns-clause-another c x e s = other_close (is_shut x (Close 3 ∷ []) e s)
