-- Why a world refuses a line, as the definitions of traces say it: by its ends, and by what is left.
use Rattle.std.specs.Prelude.{◌≡◌, ℕ, ◌+◌, List, map, Option}
use Rattle.atspi_script_lines.specs.declared.line.Party.{Party}
use Rattle.atspi_script_lines.specs.declared.line.Party.TheVariants.{App, Reader}
use Rattle.atspi_script_lines.specs.declared.line.Line.{Line}
use Rattle.atspi_script_lines.specs.declared.line.Line.TheVariants.{App as App_line, Edit as Edit_line, Call}
use Rattle.atspi_world_links.specs.declared.post.Post.{Post}
use Rattle.atspi_world_links.specs.declared.post.Standing as stands
use Rattle.atspi_world_links.specs.declared.post.Standing.TheVariants.{Here, Stopped, Away}
use Rattle.atspi_trace.specs.World.{Standing, here, stopped, away, End, World}
use Rattle.atspi_trace.specs.Ends.{end_of, app_count, reader_count}
use Rattle.atspi_trace.specs.Work as work
use Rattle.atspi_trace.specs.Work.{if_started, if_here, no_more, refused, spare_count}
use Rattle.atspi_world_parties.specs.declared.refusing.Refusal.{Refusal}
use Rattle.atspi_world_parties.specs.declared.refusing.Refusal.TheVariants.{NoParty, Dead, NoKit, NoReader, NoSpare}
use Rattle.atspi_world_parties.specs.declared.refusing.Refusal.TheVariants.{Late, NotHeld, Edit as Edit_refused}
use Rattle.atspi_tree_model.specs.Row.{IsName}

abbrev pub standing_of : stands.Standing → Standing
standing_of Here = here
standing_of Stopped = stopped
standing_of Away = away

abbrev pub refusal_of : Refusal → work.Refusal
refusal_of NoParty = work.no_party
refusal_of Dead = work.dead
refusal_of NoKit = work.no_kit
refusal_of NoReader = work.no_reader
refusal_of NoSpare = work.no_spare
refusal_of Late = work.late
refusal_of NotHeld = work.not_held
refusal_of (Edit_refused fault) = work.of_edit fault

-- who an end is, and whether it is there
abbrev pub seat_of_end : End → Party × Standing
seat_of_end e = (e.who, e.standing)

abbrev pub seat_of_post : Post → Party × Standing
seat_of_post p = (p.who, standing_of p.standing)

-- the ends are those of the connections, in order
pub record HaveSeats (ends : List End) (posts : List Post) : Type 0 where
  pub same : map seat_of_end ends ≡ map seat_of_post posts

-- A world of the definitions that is this one, as far as a refusal asks: its ends are those of the connections, so many
-- are applications and so many readers, and so many faces are left
pub record IsOf (w : World) (posts : List Post) (apps readers spares : ℕ) : Type 0 where
  pub seats : HaveSeats w.ends posts
  pub apps_are : app_count w.ends ≡ apps
  pub readers_are : reader_count w.ends ≡ readers
  pub spares_are : w.swaps + spares ≡ spare_count

-- the refusal of a line, but for those that the application makes of an edit and the reader of a call
abbrev pub first_refusal : World → Line → Option work.Refusal
first_refusal w (Edit_line app edit) = if_started (end_of w.ends (App app)) (λ e. if_here e no_more)
first_refusal w (Call reader app node deed) =
    if_started (end_of w.ends (Reader reader)) (λ r. if_started (end_of w.ends (App app)) (λ a. if_here r no_more))
first_refusal w line = refused w line

-- the name of a new root is not too long
abbrev pub HasName : Line → Type 0
HasName (App_line name) = IsName name
HasName _ = Unit {0}
