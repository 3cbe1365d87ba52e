-- Words that only the private contracts and proofs beside `Taken` use.
use Rattle.std.specs.Prelude.{◌≡◌, ℕ, List, ◌++◌, Option, None}
use Rattle.atspi_message.specs.Envelope.{Envelope}
use Rattle.atspi_message.specs.Bytes.{IsMessage, written}
use Rattle.atspi_script_lines.specs.declared.line.Party.{Party}
use Rattle.atspi_protocol.specs.registering.Steps as registering
use Rattle.atspi_trace_events.specs.declared.event.Event.{Event}
use Rattle.atspi_world_links.specs.declared.post.Post.{Post}
use Rattle.atspi_stream.specs.Stream.{AwaitsMore}
use Rattle.atspi_world_parties.specs.Taken.{Ends, IsHanded}

abbrev pub HandsFront : List ℕ → List Post → Party → Ends → Ends → List Event → List Event → Option ℕ → Type 0
HandsFront bytes posts taker ends ends' old new len =
    (m : Envelope) (rest : List ℕ) → IsMessage m (written m) → bytes ≡ written m ++ rest
    → IsHanded m posts taker ends ends' old new len

-- of bytes that await more nothing is handed
abbrev pub HandsNothing : List ℕ → Ends → Ends → List Event → List Event → Option ℕ → Type 0
HandsNothing bytes ends ends' old new len = AwaitsMore bytes → (len ≡ None) × ((ends' ≡ ends) × (new ≡ old))
