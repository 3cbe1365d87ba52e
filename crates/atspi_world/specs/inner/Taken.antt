-- What an end does in a world with the bytes that lie at it.
use Rattle.std.specs.Prelude.{◌≡◌, ℕ, Bool, true, false, List, [], ◌∷◌, ◌++◌, Option, None, Some, slice_get, slice_set}
use Rattle.atspi_message.specs.Envelope.{Envelope}
use Rattle.atspi_message.specs.Bytes.{IsMessage, written}
use Rattle.atspi_script_lines.specs.declared.line.Party.{Party}
use Rattle.atspi_trace_events.specs.declared.event.Event.{Event}
use Rattle.atspi_world_links.specs.declared.post.Post.{Post}
use Rattle.atspi_world_links.specs.declared.post.Standing.{Standing}
use Rattle.atspi_world_links.specs.declared.post.Standing.TheVariants.{Here}
use Rattle.atspi_stream.specs.Stream.{AwaitsMore}
use Rattle.atspi_world_parties.specs.Taken.{got_by, Ends, ends_after, Tells}
use Rattle.atspi_world.specs.Worlds.{Staged}

-- the ends of a world
abbrev pub ends_in : Staged → Ends
ends_in s = record { registry = s.registry; apps = s.apps; readers = s.readers }

-- an end took the message that lay whole at it, and what it did then is told
pub record GotWhole (m : Envelope) (conn : ℕ) (who : Party) (old new : Staged) (took : Bool) : Type 0 where
  pub took_it : took ≡ true
  pub left : new.given ≡ slice_set old.given conn []
  pub mid : List Event
  pub told : mid ≡ old.trace ++ got_by who old.posts m ∷ []
  pub tells : Tells who conn (ends_after who m (ends_in old)) (ends_in new) old.posts new.posts mid new.trace

-- it took none, and what it had queued is told
pub record GotNothing (conn : ℕ) (who : Party) (old new : Staged) (took : Bool) : Type 0 where
  pub took_none : took ≡ false
  pub left : new.given ≡ old.given
  pub tells : Tells who conn (ends_in old) (ends_in new) old.posts new.posts old.trace new.trace

-- WHAT AN END DOES WITH WHAT LIES AT IT
pub record IsGot (conn : ℕ) (who : Party) (bytes : List ℕ) (old new : Staged) (took : Bool) : Type 0 where
  pub whole : (m : Envelope) → IsMessage m (written m) → bytes ≡ written m → GotWhole m conn who old new took
  pub part : AwaitsMore bytes → GotNothing conn who old new took
  pub bus : new.bus ≡ old.bus
  pub kits : new.kits ≡ old.kits
  pub spares : new.spares ≡ old.spares

abbrev pub Gets : ℕ → Staged → Staged → Bool → Type 0
Gets conn old new took = (p : Post) (bytes : List ℕ) → slice_get old.posts conn ≡ Some p
    → slice_get old.given conn ≡ Some bytes → IsGot conn p.who bytes old new took

-- the end of a connection is there
abbrev pub is_standing : Standing → Bool
is_standing Here = true
is_standing standing = false

abbrev pub stands_here : Option Post → Bool
stands_here None = false
stands_here (Some p) = is_standing p.standing
