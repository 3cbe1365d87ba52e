-- Words that only the private contracts and proofs beside `Doing` use.
use Rattle.std.specs.Prelude.{◌<◌, ℕ, List, ◌∷◌, length, []}
use Rattle.atspi_script_lines.specs.declared.line.Party.{Party}
use Rattle.atspi_script_lines.specs.declared.line.Party.TheVariants as party
use Rattle.atspi_protocol.specs.following.ReaderState as following
use Rattle.atspi_protocol.specs.following.ReaderState.{ReaderState}
use Rattle.atspi_trace_events.specs.declared.event.Event.{Event}
use Rattle.atspi_world_links.specs.declared.post.Post.{Post}
use Rattle.atspi_world_parties.specs.Doing.{IsToldAll}

-- of one thing that it did
abbrev pub TellsOne : following.Done → ℕ → ℕ → List Post → List Post → List Event → List Event → Type 0
TellsOne d reader conn posts posts' old new = conn < length posts → IsToldAll reader (d ∷ []) conn posts posts' old new
