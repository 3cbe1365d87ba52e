use Rattle.std.proofs.Common.{length}
use Rattle.atspi_bus.proofs.in_place.+say_each.Given as goal

abbrev pub decreases-say_each : goal.decreases-say_each
decreases-say_each l = length l.told.now.items
