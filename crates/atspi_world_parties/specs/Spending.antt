-- An end spends its serials: its next one would be above the last.
use Rattle.std.specs.Prelude.{◌≡◌, ℕ, List, ◌∷◌, ◌++◌, Some, slice_get, []}
use Rattle.atspi_trace_events.specs.declared.event.Event.{Event}
use Rattle.atspi_script_lines.specs.declared.line.Party.{Party}
use Rattle.atspi_script_lines.specs.declared.line.Party.TheVariants.{Bus as The_bus, Registry, App, Reader}
use Rattle.atspi_message.specs.Envelope.{Envelope}
use Rattle.atspi_message.specs.Bytes.{IsMessage, written}
use Rattle.atspi_world_links.specs.declared.post.Post.{Post}
use Rattle.atspi_protocol.specs.exporting.Exporter.{Exporter}
use Rattle.atspi_protocol.specs.following.ReaderState.{ReaderState}
use Rattle.atspi_stream.specs.Stream.{AwaitsMore}
use Rattle.atspi_trace.specs.play.Breaking.{IsPast}
use Rattle.atspi_world_parties.specs.Taken.{got_by, Ends, ends_after}

-- A PARTY'S NEXT SERIAL IS ABOVE THE LAST
abbrev pub HasSpentAll : Party → Ends → Type 0
HasSpentAll The_bus ends = ⊥
HasSpentAll Registry ends = IsPast ends.registry.state.next
HasSpentAll (App a) ends = (s : Exporter) × (slice_get ends.apps a ≡ Some s) × IsPast s.next
HasSpentAll (Reader r) ends = (s : ReaderState) × (slice_get ends.readers r ≡ Some s) × IsPast s.next

-- a message was handed to a party, which is told, and with what it says to it serials are spent
pub record IsSpentWith (m : Envelope) (posts : List Post) (taker : Party) (ends : Ends) (old new : List Event)
    : Type 0 where
  pub told : new ≡ old ++ got_by taker posts m ∷ []
  pub spent : HasSpentAll taker (ends_after taker m ends)

-- the message that bytes begin with was handed so; of bytes that await more none is
pub record SpendsFront (bytes : List ℕ) (posts : List Post) (taker : Party) (ends : Ends) (old new : List Event)
    : Type 0 where
  pub whole : (m : Envelope) (rest : List ℕ) → IsMessage m (written m) → bytes ≡ written m ++ rest
      → IsSpentWith m posts taker ends old new
  pub part : AwaitsMore bytes → ⊥
