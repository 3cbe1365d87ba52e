use Rattle.std.proofs.Common.{refl}
use Rattle.atspi_live_host.specs.declared.call.Did.TheVariants.{Done}
use Rattle.atspi_live_bus_examples.proofs.Facts.{few_read, its_read}
use Rattle.atspi_live_bus_examples.proofs.rounding.reads.Goals as goal

pub returns-clause-most : goal.returns-clause-most
returns-clause-most c x y past closes bytes few follows = (bytes, Done 7, closes, few, follows, refl)

pub returns-clause-more : goal.returns-clause-more
returns-clause-more c x y past closes bytes did many h = few_read closes h.2 bytes h.0 did h.1 many h.3 h.5

pub returns-clause-of_another : goal.returns-clause-of_another
returns-clause-of_another c x y past closes bytes did h = its_read closes h.2 bytes h.0 did h.1 h.5
