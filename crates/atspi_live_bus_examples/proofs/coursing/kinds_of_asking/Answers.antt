use Rattle.std.proofs.Common.{refl}
use Rattle.atspi_live_bus_examples.proofs.Facts.{two_one}
use Rattle.atspi_live_bus_examples.proofs.coursing.kinds_of_asking.Goals as goal

pub returns-clause-none : goal.returns-clause-none
returns-clause-none c = tt

pub returns-clause-tells : goal.returns-clause-tells
returns-clause-tells c = (tt, (tt, tt))

pub returns-clause-joins_behind : goal.returns-clause-joins_behind
returns-clause-joins_behind c t = t.1.0

pub returns-clause-takes : goal.returns-clause-takes
returns-clause-takes c e t = t

pub returns-clause-leaves : goal.returns-clause-leaves
returns-clause-leaves c t = t

pub returns-clause-pops : goal.returns-clause-pops
returns-clause-pops c t = t

pub returns-clause-none_handed : goal.returns-clause-none_handed
returns-clause-none_handed c = tt

pub returns-clause-handed : goal.returns-clause-handed
returns-clause-handed c = (refl, (refl, tt))

pub returns-clause-to_another : goal.returns-clause-to_another
returns-clause-to_another c h = two_one h.1.0

pub returns-clause-joined : goal.returns-clause-joined
returns-clause-joined c h = h

pub returns-clause-taken : goal.returns-clause-taken
returns-clause-taken c e h = h

pub returns-clause-left : goal.returns-clause-left
returns-clause-left c h = h

pub returns-clause-told : goal.returns-clause-told
returns-clause-told c h = h
