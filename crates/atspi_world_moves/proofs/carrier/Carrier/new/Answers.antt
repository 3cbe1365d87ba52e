use Rattle.std.proofs.Common.{min}
use Rattle.atspi_bus_steps.specs.InnerBus.{inner_of}
use Rattle.atspi_world_moves.proofs.Buses.{sound-empty}
use Rattle.atspi_world_moves.proofs.carrier.Carrier.new.Goals as goal

pub returns-clause-sound : goal.returns-clause-sound
returns-clause-sound c = sound-empty (inner_of c.new.result) (min c.args.quota 67108864) c.new.ensures.bus
