-- Where carrying stops: the registry is dropped, or the bus spent its serials.
use Rattle.std.specs.Prelude.{◌≡◌, ◌⊎◌, ℕ, ◌<◌, true, false, List, ◌∷◌, ◌++◌, map, Option, []}
use Rattle.std.specs.List.{AllByRecursion}
use Rattle.atspi_script_lines.specs.declared.line.Party.{Party}
use Rattle.atspi_script_lines.specs.declared.line.Party.TheVariants.{Registry}
use Rattle.atspi_trace_events.specs.declared.event.Event.{Event}
use Rattle.atspi_world_links.specs.declared.post.Post.{Post}
use Rattle.atspi_trace.specs.Entry.{Entry, entries_of}
use Rattle.atspi_trace.specs.World.{End, World}
use Rattle.atspi_trace.specs.Ends.{same_party}
use Rattle.atspi_trace.specs.Causes.{Cause, Done, does}
use Rattle.atspi_trace.specs.Work.{Work, cause, next_of}
use Rattle.atspi_trace.specs.Due.{is_lost}
use Rattle.atspi_world_moves.specs.Carried.{post_of}

-- the first end is the registry, and no other is
abbrev pub IsAnother : End → Type 0
IsAnother e = same_party e.who Registry ≡ false

abbrev pub HasRegistryFirst : List End → Type 0
HasRegistryFirst [] = ⊥
HasRegistryFirst (e ∷ es) = (e.who ≡ Registry) × AllByRecursion IsAnother es

-- whose a connection is, and the name that it has
pub record Naming : Type 0 where
  pub who : Party
  pub name : Option (List ℕ)

abbrev pub naming_of : Post → Naming
naming_of p = record { who = p.who; name = p.name }

abbrev pub AreNamedAs : List Post → List Post → Type 0
AreNamedAs before after = map naming_of after ≡ map naming_of before

-- THE CONNECTIONS HAVE THE NAMES of the ends of a world
abbrev pub HaveNames : World → List Post → Type 0
HaveNames w posts = AreNamedAs (map post_of w.ends) posts

-- THE REGISTRY IS LOST by what was done, and all that this writes was written; the connections have the names that ends
-- have behind it
pub record IsLostBy (d : Done) (posts : List Post) (old new : List Event) : Type 0 where
  pub lost : is_lost d.world ≡ true
  pub wrote : entries_of new ≡ entries_of old ++ d.entries
  pub names : HaveNames d.world posts

-- of what is to be written a front was
pub record IsPartDone (d : Done) (old new : List Event) : Type 0 where
  pub part : List Entry
  pub missing : List Entry
  pub front : d.entries ≡ part ++ missing
  pub wrote : entries_of new ≡ entries_of old ++ part

-- THE BUS SPENT ITS SERIALS: its next one would be above 4,294,967,296, so one that it uses would be above
-- 4,294,967,295, which has more than 32 bits; the connections have the names that ends had before that was done in a
-- world, or have behind it
abbrev pub IsSpentBy : World → Done → List Post → List Event → List Event → Type 0
IsSpentBy w d posts old new = (4294967296 < d.world.bus.state.next) × IsPartDone d old new
    × (HaveNames w posts ⊎ HaveNames d.world posts)

-- some causes of what is left of a line were done, one after another, each with its entries: this is the world then,
-- and this is left
pub data WorksOn : World → Work → List Entry → World → Work → Type 0 where
  so_far : (w : World) (left : Work) → WorksOn w left [] w left
  caused : (w v u : World) (work left last : Work) (c : Cause) (entries : List Entry) → next_of w work ≡ cause c v left
      → WorksOn (does v c).world left entries u last
      → WorksOn w work ((does v c).entries ++ entries) u last

-- the next cause of what is left of a line, behind some that were done; the registry is there so far
pub record IsAtWork (w : World) (work : Work) : Type 0 where
  pub entries : List Entry
  pub now : World
  pub last : Work
  pub done : WorksOn w work entries now last
  pub lives : is_lost now ≡ false
  pub moved : World
  pub rest : Work
  pub next : Cause
  pub is_next : next_of now last ≡ cause next moved rest

-- what that cause does
abbrev pub does_next : {w : World} {work : Work} → IsAtWork w work → Done
does_next a = does a.moved a.next

-- it drops the registry
pub record IsLostOn (w : World) (work : Work) (posts : List Post) (old new : List Event) : Type 0 where
  pub at : IsAtWork w work
  pub lost : is_lost (does_next at).world ≡ true
  pub wrote : entries_of new ≡ entries_of old ++ (at.entries ++ (does_next at).entries)
  pub names : HaveNames (does_next at).world posts

-- it spends the serials of the bus
pub record IsSpentOn (w : World) (work : Work) (posts : List Post) (old new : List Event) : Type 0 where
  pub at : IsAtWork w work
  pub spent : 4294967296 < (does_next at).world.bus.state.next
  pub part : List Entry
  pub missing : List Entry
  pub front : (does_next at).entries ≡ part ++ missing
  pub wrote : entries_of new ≡ entries_of old ++ (at.entries ++ part)
  pub names : HaveNames at.moved posts ⊎ HaveNames (does_next at).world posts
