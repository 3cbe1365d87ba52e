-- Registries, messages and bytes of the worked cases.
use Rattle.std.specs.Prelude.{ℕ, List, [], ◌∷◌, ◌++◌, Some, codes}
use Rattle.atspi_auth.specs.Lines.{end_of_line}
use Rattle.atspi_message.specs.Envelope.{Envelope}
use Rattle.atspi_protocol.specs.registering.RegistryState.{begins}
use Rattle.atspi_protocol.specs.registering.Room.{bus_return, one_text, owner_changed, registry_call, room, six_}
use Rattle.atspi_protocol.specs.registering.Steps.{Registry}
use Rattle.atspi_protocol.specs.registry_laws.Sends.{started}

-- the bus's return to Hello, and a registry that took it, with its calls still queued
abbrev pub welcome : Envelope
welcome = bus_return 1 (one_text (codes ":1.7"))

abbrev pub named : Registry
named = record { state = record begins { hello = Some 1; own = Some (codes ":1.7"); next = 4 }; out = started.out }

-- a registry whose next message has this number
abbrev pub at_number : ℕ → Registry
at_number n = record { state = record room { next = n }; out = [] }

-- a call that gets one message, and news that get none
abbrev pub unknown_call : Envelope
unknown_call = registry_call six_ (codes "Pong") []

abbrev pub news : Envelope
news = owner_changed (codes ":1.9") (codes ":1.9") []

-- the first line of a client; the lines of a server that lets it in, and the line of one that does not
abbrev pub hail : List ℕ
hail = 0 ∷ codes "AUTH EXTERNAL" ++ end_of_line

abbrev pub granted : List ℕ
granted = codes "DATA" ++ (end_of_line ++ (codes "OK 61747370693200000000000000000001" ++ end_of_line))

abbrev pub rejected : List ℕ
rejected = codes "REJECTED EXTERNAL" ++ end_of_line
