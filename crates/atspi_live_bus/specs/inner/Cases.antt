-- Words that only the private contracts and proofs beside `Cases` use.
use Rattle.std.specs.Prelude.{[]}
use Rattle.atspi_match.specs.routing.Queues.{Bus, empty_bus}
use Rattle.atspi_match.specs.routing.Room.{room}

-- a bus of four connections, three of which have their names, where nobody asks for anything and nothing waits; and a
-- signal of this path to all
abbrev pub hushed : Bus
hushed = record (empty_bus 16777216) { state = record room { rules = [] } }
