use Rattle.std.proofs.Common.{refl}
use Rattle.atspi_live_bus_examples.proofs.seating.links_left.Goals as goal

pub returns-clause-others : goal.returns-clause-others
returns-clause-others c = refl

pub returns-clause-none : goal.returns-clause-none
returns-clause-none c = refl

pub returns-clause-listen : goal.returns-clause-listen
returns-clause-listen c = refl

pub returns-clause-accept : goal.returns-clause-accept
returns-clause-accept c = refl

pub returns-clause-connect : goal.returns-clause-connect
returns-clause-connect c = refl

pub returns-clause-read : goal.returns-clause-read
returns-clause-read c = refl

pub returns-clause-write : goal.returns-clause-write
returns-clause-write c = refl

pub returns-clause-close : goal.returns-clause-close
returns-clause-close c = refl

pub returns-clause-both : goal.returns-clause-both
returns-clause-both c = refl
