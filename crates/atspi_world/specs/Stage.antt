-- What holds of a world at any time.
use Rattle.std.specs.Prelude.{◌≡◌, ℕ, ◌<◌, Bool, true, false, List, [], ◌∷◌, ◌++◌, ◌⊎◌, All, Result, Ok, Err, length}
use Rattle.std.specs.Prelude.{map, slice_set}
use Rattle.atspi_match.specs.routing.BusState.{BusState}
use Rattle.atspi_bus_steps.specs.InnerBus.{state_of}
use Rattle.atspi_bus_steps.specs.Sound.{IsSound}
use Rattle.atspi_trace_events.specs.declared.event.Event.{Event}
use Rattle.atspi_world_links.specs.declared.post.Post.{Post}
use Rattle.atspi_world.specs.declared.stage.Stage.{Stage}
use Rattle.atspi_world.specs.declared.fault.ActFault.{ActFault}
use Rattle.atspi_world.specs.declared.fault.ActFault.TheVariants.{Refused, Unsendable, NoMemory}

-- what holds of each application, each reader, each kit that is left and each spare, and of the bus
pub record AllHold {A R K S : Type 0} (is_app : A → Type 0) (is_follower : R → Type 0) (is_kit : K → Type 0)
    (is_spare : S → Type 0)
    (apps : List A) (readers : List R) (kits : List K) (spares : List S) (bus : BusState) : Type 0 where
  pub apps_are : All is_app apps
  pub readers_are : All is_follower readers
  pub kits_are : All is_kit kits
  pub spares_are : All is_spare spares
  pub sound : IsSound bus

-- WHAT HOLDS OF THE CODE'S WORLD
abbrev pub IsStage : {A R K S : Type 0} → (A → Type 0) → (R → Type 0) → (K → Type 0) → (S → Type 0) → Stage A R K S
    → Type 0
IsStage is_app is_follower is_kit is_spare s =
    AllHold is_app is_follower is_kit is_spare s.cast.apps.items s.cast.readers.items s.kits.items s.spares.items
    (state_of s.carrier.bus)

-- all that happened in it, the oldest first
abbrev pub trace_of : {A R K S : Type 0} → Stage A R K S → List Event
trace_of s = s.carrier.trace.items

-- its connections
abbrev pub posts_of : {A R K S : Type 0} → Stage A R K S → List Post
posts_of s = s.carrier.posts.items

-- its applications and its readers, in order of starting
abbrev pub apps_of : {A R K S : Type 0} → Stage A R K S → List A
apps_of s = s.cast.apps.items

abbrev pub readers_of : {A R K S : Type 0} → Stage A R K S → List R
readers_of s = s.cast.readers.items

-- the spares that are left
abbrev pub spares_of : {A R K S : Type 0} → Stage A R K S → List S
spares_of s = s.spares.items

-- The last spare is taken, and the texts of an application that is there lie in it from now on, those of the others
-- where they did. Where none is left nothing is said.
abbrev pub IsExchanged : {A S : Type 0} → (A → ℕ) → (S → ℕ) → ℕ → List A → List A → List S → List S → Type 0
IsExchanged {S = S} texts number app apps others spares left = (spares ≡ [])
    ⊎ ((spare : S) × (spares ≡ left ++ spare ∷ [])
    × (app < length apps → map texts others ≡ slice_set (map texts apps) app (number spare)))

-- it holds behind a line that was done, and behind one that was refused
abbrev pub UnlessHalted : {A : Type 0} → Result A ActFault → Type 0 → Type 0
UnlessHalted (Ok done) holds = holds
UnlessHalted (Err (Refused why)) holds = holds
UnlessHalted (Err fault) holds = Unit {0}

-- a line is given up for what a step is: want of memory, and what no script comes to
abbrev pub gives_line_up : ActFault → Bool
gives_line_up NoMemory = true
gives_line_up Unsendable = true
gives_line_up fault = false
