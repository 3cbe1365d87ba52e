-- Words behind `Told` that only private contracts and proofs use.
use Rattle.std.specs.Prelude.{ℕ, suc, List, [], ◌∷◌, drop, Option, None, Some}
use Rattle.atspi_trace_events.specs.declared.event.Event.{Event}
use Rattle.atspi_world_links.specs.declared.post.Post.{Post}
use Rattle.atspi_world_parties.specs.Wires.{event_bytes}
use Rattle.atspi_run_replay.specs.Told.{Told}

-- the event at a place of a trace, with the bytes of its message
abbrev pub told_at : List Post → List Event → ℕ → Event → Told
told_at posts trace place event = record { event = event; bytes = event_bytes posts trace place event }

abbrev pub told_if : List Post → List Event → ℕ → Option Event → List Told
told_if posts trace place None = []
told_if posts trace place (Some event) = told_at posts trace place event ∷ []

-- the events from a place on
abbrev pub told_on : List Post → List Event → ℕ → List Event → List Told
told_on posts trace place [] = []
told_on posts trace place (event ∷ events) = told_at posts trace place event ∷ told_on posts trace (suc place) events

-- all from a place on
abbrev pub told_from : List Post → List Event → ℕ → List Told
told_from posts trace place = told_on posts trace place (drop place trace)
