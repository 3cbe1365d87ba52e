use Rattle.atspi_live_bus_examples.proofs.Facts.{none_some, not_all, still_waits}
use Rattle.atspi_live_bus_examples.proofs.rounding.all_given.Goals as goal

pub returns-clause-no_link : goal.returns-clause-no_link
returns-clause-no_link c past h = none_some h.conn h.seated

pub returns-clause-more : goal.returns-clause-more
returns-clause-more c past g t x none h = not_all x past g t none h

pub returns-clause-waits : goal.returns-clause-waits
returns-clause-waits c x past seated over waiting h = still_waits x past seated over waiting h

pub returns-clause-other_calls : goal.returns-clause-other_calls
returns-clause-other_calls c x past none h = none h.fits
