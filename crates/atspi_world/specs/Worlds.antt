-- A world of the definitions that the code's world is.
use Rattle.std.specs.Prelude.{◌≡◌, ℕ, suc, ◌+◌, false, List, [], ◌∷◌, ◌++◌, length, map}
use Rattle.std.specs.List.{AllByRecursion}
use Rattle.atspi_script_lines.specs.declared.limits.TheConstants.{APP_COUNT}
use Rattle.atspi_script_lines.specs.declared.line.Party.{Party}
use Rattle.atspi_script_lines.specs.declared.line.Party.TheVariants.{Bus as The_bus, Registry, App, Reader}
use Rattle.atspi_protocol.specs.exporting.Exporter.{Exporter}
use Rattle.atspi_protocol.specs.following.ReaderState.{ReaderState}
use Rattle.atspi_protocol.specs.registering.Steps as registering
use Rattle.atspi_match.specs.routing.Queues.{Bus}
use Rattle.atspi_trace_events.specs.declared.event.Event.{Event}
use Rattle.atspi_world_links.specs.declared.post.Post.{Post}
use Rattle.atspi_trace.specs.Entry.{entries_of}
use Rattle.atspi_trace.specs.World.{the_registry, End, World, first_world}
use Rattle.atspi_trace.specs.Ends.{same_party, app_count, reader_count}
use Rattle.atspi_trace.specs.Work.{spare_count}
use Rattle.atspi_trace.specs.Causes.{Done}
use Rattle.atspi_trace.specs.Due.{is_lost}
use Rattle.atspi_world_moves.specs.Carried.{IsCarried}
use Rattle.atspi_world_moves.specs.Linked.{IsLinked}
use Rattle.atspi_trace.specs.play.Playing.{Playing, Happened}
use Rattle.atspi_bus_steps.specs.InnerBus.{inner_of}
use Rattle.atspi_world.specs.Cast.{IsApp, IsReader, ArePlayed}
use Rattle.atspi_world.specs.declared.stage.Stage.{Stage}

-- What contracts see of the code's world: the bus and the connections, what lies at their ends, the registry, the ends
-- by their numbers, how many kits and spare faces are left, and what was told
pub record Staged : Type 0 where
  pub bus : Bus
  pub posts : List Post
  pub given : List (List ℕ)
  pub registry : registering.Registry
  pub apps : List Exporter
  pub readers : List ReaderState
  pub kits : ℕ
  pub spares : ℕ
  pub trace : List Event

-- those of the code's world, whose ends are seen as these functions say
abbrev pub staged : {A R K S : Type 0} → (A → Exporter) → (R → ReaderState) → Stage A R K S → Staged
staged exporter follower s = record {
  bus = inner_of s.carrier.bus;
  posts = s.carrier.posts.items;
  given = s.carrier.at_end.items;
  registry = s.cast.registry;
  apps = map exporter s.cast.apps.items;
  readers = map follower s.cast.readers.items;
  kits = length s.kits.items;
  spares = length s.spares.items;
  trace = s.carrier.trace.items;
}

-- the same, before one of its kits was taken
abbrev pub with_kit : Staged → Staged
with_kit s = record s { kits = suc s.kits }

-- the first of the ends is the registry
abbrev pub BeginsWithRegistry : List End → Type 0
BeginsWithRegistry [] = ⊥
BeginsWithRegistry (e ∷ ends) = e.who ≡ Registry

-- and it is the one that the code has, and has queued nothing
abbrev pub IsRegistry : registering.Registry → List End → Type 0
IsRegistry r [] = ⊥
IsRegistry r (e ∷ ends) = (e.role ≡ the_registry r.state) × (r.out ≡ [])

-- no party stands twice
abbrev pub who_of : End → Party
who_of e = e.who

abbrev pub AreApart : List Party → Type 0
AreApart [] = Unit {0}
AreApart (p ∷ ps) = AllByRecursion (λ q. same_party p q ≡ false) ps × AreApart ps

-- THE TIE: bus and connections are those of the world, and what lies at their ends is the front of their down links; no
-- party has two ends, and the bus none; the registry was there first, and is here; each application and each reader is
-- played by the one with its number, and there are no others; kits and faces that are not used are left, and without an
-- application no face is used
pub record IsWorld (w : World) (s : Staged) : Type 0 where
  pub carried : IsCarried w s.bus s.posts
  pub linked : IsLinked w s.given
  pub apart : AreApart (The_bus ∷ map who_of w.ends)
  pub registry_plays : IsRegistry s.registry w.ends
  pub apps_play : ArePlayed App IsApp s.apps w.ends
  pub readers_play : ArePlayed Reader IsReader s.readers w.ends
  pub apps_are : app_count w.ends ≡ length s.apps
  pub readers_are : reader_count w.ends ≡ length s.readers
  pub first : BeginsWithRegistry w.ends
  pub lives : is_lost w ≡ false
  pub kits_are : length s.apps + s.kits ≡ APP_COUNT
  pub spares_are : w.swaps + s.spares ≡ spare_count
  pub unused : app_count w.ends ≡ 0 → w.swaps ≡ 0

-- A cause was done: this is the world after it, just its entries were written, and these are the readers
pub record IsAfter (d : Done) (readers : List ReaderState) (old new : Staged) : Type 0 where
  pub is : IsWorld d.world new
  pub wrote : entries_of new.trace ≡ entries_of old.trace ++ d.entries
  pub readers_are : new.readers ≡ readers

-- THE SAME OF A WORLD WHOSE READERS ARE THOSE OF THEIR OWN DEFINITIONS: these are the code's readers
pub record IsPlaying (p : Playing) (s : Staged) : Type 0 where
  pub is : IsWorld p.world s
  pub readers : s.readers ≡ p.readers

-- something happened: this is the world after it, and just its entries were written
pub record Happens (h : Happened) (old new : Staged) : Type 0 where
  pub is : IsPlaying h.now new
  pub wrote : entries_of new.trace ≡ entries_of old.trace ++ h.entries

-- a world begins anew: bus, connections and registry are those of the first world with a quota, and nothing was written
pub record IsBegun (quota : ℕ) (bus : Bus) (posts : List Post) (given : List (List ℕ)) (registry : registering.Registry)
    (old new : List Event) : Type 0 where
  pub carried : IsCarried (first_world quota) bus posts
  pub linked : IsLinked (first_world quota) given
  pub registry_plays : IsRegistry registry (first_world quota).ends
  pub silent : entries_of new ≡ entries_of old
