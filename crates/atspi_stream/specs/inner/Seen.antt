-- What looking at the bytes that are held gives.
use Rattle.std.specs.Prelude.{◌≡◌, ◌≤◌, ℕ, List, length, take}
use Rattle.atspi_message.specs.Bytes.{IsMessage}
use Rattle.atspi_message_in_place.specs.View.{envelope_at}
use Rattle.atspi_stream.specs.Stream.{AwaitsMore, HasFault}
use Rattle.atspi_stream.specs.declared.feeder.Got.{Got}
use Rattle.atspi_stream.specs.declared.feeder.Got.TheVariants.{Message, NotYet, Bad}

-- a message and its length; or that more is awaited, or a fault, and no length
abbrev pub Sees : Got × ℕ → List ℕ → Type 0
Sees (Message m, n) held = (n ≤ length held) × IsMessage (envelope_at m) (take n held)
Sees (NotYet, n) held = (n ≡ 0) × AwaitsMore held
Sees (Bad f, n) held = (n ≡ 0) × HasFault held f.place f.reason
