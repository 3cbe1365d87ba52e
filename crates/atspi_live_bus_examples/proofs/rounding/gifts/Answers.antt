use Rattle.std.proofs.Common.{refl}
use Rattle.atspi_live_host.specs.declared.call.Did.TheVariants.{NotYet}
use Rattle.atspi_live_bus_examples.proofs.Facts.{few_given, its_gift, some_given}
use Rattle.atspi_live_bus_examples.proofs.rounding.gifts.Goals as goal

pub returns-clause-waits : goal.returns-clause-waits
returns-clause-waits c x past is = is

pub returns-clause-does_not : goal.returns-clause-does_not
returns-clause-does_not c x past none waits = none waits

pub returns-clause-most : goal.returns-clause-most
returns-clause-most c x m y past closes bytes out some few waits follows = (m, bytes, NotYet, closes, out, some, few, waits, follows, refl)

pub returns-clause-more : goal.returns-clause-more
returns-clause-more c x y past closes bytes did many g = few_given closes g.3 bytes g.1 did g.2 many g.6 g.9

pub returns-clause-no_byte : goal.returns-clause-no_byte
returns-clause-no_byte c x y past closes did g = some_given closes g.3 g.1 did g.2 g.5 g.9

pub returns-clause-to_another : goal.returns-clause-to_another
returns-clause-to_another c x y past closes bytes did g = its_gift closes g.3 bytes g.1 did g.2 g.9
