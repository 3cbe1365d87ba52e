-- What an end takes of the bytes that lie at it: the message that they begin with, and the others stay.
use Rattle.std.specs.Prelude.{◌≡◌, ℕ, Bool, true, false, List, ◌∷◌, ◌++◌, length, map, Option, Some, []}
use Rattle.atspi_message.specs.Envelope.{Envelope}
use Rattle.atspi_message.specs.Bytes.{IsMessage, written}
use Rattle.atspi_script_lines.specs.declared.line.Party.{Party}
use Rattle.atspi_script_lines.specs.declared.line.Party.TheVariants.{Bus as The_bus, Registry, App, Reader}
use Rattle.atspi_protocol.specs.exporting.Exporter.{Exporter}
use Rattle.atspi_protocol.specs.exporting.Taking.{app_takes}
use Rattle.atspi_protocol.specs.following.ReaderState.{ReaderState}
use Rattle.atspi_protocol.specs.following.Takes.{reader_takes}
use Rattle.atspi_protocol.specs.registering.Steps as registering
use Rattle.atspi_trace_events.specs.declared.event.Event.{Event}
use Rattle.atspi_trace_events.specs.declared.event.Event.TheVariants.{Got}
use Rattle.atspi_world_links.specs.declared.post.Post.{Post}
use Rattle.atspi_stream.specs.Stream.{AwaitsMore}
use Rattle.atspi_world_links.specs.Changes.{changed_at}
use Rattle.atspi_world_links.specs.Named.{party_named}
use Rattle.atspi_world_parties.specs.Doing.{TellsAt, TellsFirst, TellsReaderAt}

-- that a party took a message is told, with whom its sender names
abbrev pub got_by : Party → List Post → Envelope → Event
got_by taker posts m = Got taker (party_named m.sender posts) m.serial

-- WHAT AN END DOES WITH A MESSAGE THAT IT TAKES: what its own definitions say, and no other end does anything
abbrev pub registry_after : Party → Envelope → registering.Registry → registering.Registry
registry_after Registry m r = registering.takes r m
registry_after who m r = r

abbrev pub apps_after : Party → Envelope → List Exporter → List Exporter
apps_after (App a) m apps = changed_at a (λ s. app_takes s m) apps
apps_after who m apps = apps

abbrev pub readers_after : Party → Envelope → List ReaderState → List ReaderState
readers_after (Reader r) m readers = changed_at r (λ s. reader_takes s m) readers
readers_after who m readers = readers

-- the ends of a stage: the registry, the applications and the readers
pub record Ends : Type 0 where
  pub registry : registering.Registry
  pub apps : List Exporter
  pub readers : List ReaderState

abbrev pub ends_of : {A R : Type 0} → (A → Exporter) → (R → ReaderState) → registering.Registry → List A → List R → Ends
ends_of exporter follower registry apps readers =
    record { registry = registry; apps = map exporter apps; readers = map follower readers }

-- the ends after one of them took a message
abbrev pub ends_after : Party → Envelope → Ends → Ends
ends_after taker m ends =
    record {
      registry = registry_after taker m ends.registry;
      apps = apps_after taker m ends.apps;
      readers = readers_after taker m ends.readers;
    }

-- a message was handed to a party, which took it: that is told, and it is so long
pub record IsHanded (m : Envelope) (posts : List Post) (taker : Party) (ends ends' : Ends) (old new : List Event)
    (len : Option ℕ) : Type 0 where
  pub long : len ≡ Some (length (written m))
  pub told : new ≡ old ++ got_by taker posts m ∷ []
  pub taken : ends' ≡ ends_after taker m ends

-- and what lay behind it lies there still
pub record IsTakenOff (m : Envelope) (rest after : List ℕ) (posts : List Post) (taker : Party) (ends ends' : Ends)
    (old new : List Event) (took : Bool) : Type 0 where
  pub took_it : took ≡ true
  pub left : after ≡ rest
  pub told : new ≡ old ++ got_by taker posts m ∷ []
  pub taken : ends' ≡ ends_after taker m ends

abbrev pub TakesFront : List ℕ → List ℕ → List Post → Party → Ends → Ends → List Event → List Event → Bool → Type 0
TakesFront bytes after posts taker ends ends' old new took =
    (m : Envelope) (rest : List ℕ) → IsMessage m (written m) → bytes ≡ written m ++ rest
    → IsTakenOff m rest after posts taker ends ends' old new took

-- of bytes that await more nothing is taken
abbrev pub TakesNothing : List ℕ → List ℕ → Ends → Ends → List Event → List Event → Bool → Type 0
TakesNothing bytes after ends ends' old new took = AwaitsMore bytes
    → (took ≡ false) × ((after ≡ bytes) × ((ends' ≡ ends) × (new ≡ old)))

-- WHAT AN END DID IS TOLD, in the words of its kind, and nothing of another
abbrev pub Tells : Party → ℕ → Ends → Ends → List Post → List Post → List Event → List Event → Type 0
Tells The_bus conn ends ends' posts posts' old new = (ends' ≡ ends) × ((posts' ≡ posts) × (new ≡ old))
Tells Registry conn ends ends' posts posts' old new = TellsFirst ends.registry ends'.registry posts posts' old new
    × ((ends'.apps ≡ ends.apps) × (ends'.readers ≡ ends.readers))
Tells (App a) conn ends ends' posts posts' old new = TellsAt ends.apps ends'.apps a conn posts posts' old new
    × ((ends'.registry ≡ ends.registry) × (ends'.readers ≡ ends.readers))
Tells (Reader r) conn ends ends' posts posts' old new =
    TellsReaderAt ends.readers ends'.readers r conn posts posts' old new
    × ((ends'.registry ≡ ends.registry) × (ends'.apps ≡ ends.apps))
