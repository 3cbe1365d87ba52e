-- The run of a lawful trace keeps the law of bus and links, together with all other laws that are proved.
use Rattle.std.proofs.Common.{List, None}
use Rattle.atspi_trace.specs.World.{World}
use Rattle.atspi_trace_laws.specs.laws.NineLaws.{LawOfReaders as ReadersHold, LawOfDroppedEnds}
use Rattle.atspi_trace_laws.proofs.OfOwn.Writing.{Lives}
use Rattle.atspi_headline.specs.Words.{Act, entries_in}
use Rattle.atspi_headline_laws.specs.Laws.{OfEachTrace, ProvedLaws}
use Rattle.atspi_headline_laws.proofs.Applied.{apps_say}
use Rattle.atspi_headline_laws.proofs.Calling.{readers_call}
use Rattle.atspi_headline_laws.proofs.Edits.{steps_follow}
use Rattle.atspi_headline_laws.proofs.Exits.{exits_are_due}
use Rattle.atspi_headline_laws.proofs.Gone.{ends_are_told}
use Rattle.atspi_headline_laws.proofs.Heard.{apps_do_hear}
use Rattle.atspi_headline_laws.proofs.Over.{nothing_is_of, nothing_behind_drops}
use Rattle.atspi_headline_laws.proofs.Proving.{with_run}
use Rattle.atspi_headline_laws.proofs.Ran.{Ran}
use Rattle.atspi_headline_laws.proofs.Registering.{registry_sends}
use Rattle.atspi_headline_laws.proofs.Shown.{rows_are_shown}
use Rattle.atspi_headline_laws.proofs.Spoken.{lines_are_spoken}
use Rattle.atspi_headline_laws.proofs.Starts.{begins_with_line, starts_are_due}
use Rattle.atspi_headline_links.specs.Laws.{WhatIsMovedIsTaken, BusSaysItsStep, LawsKept}
use Rattle.atspi_headline_links.proofs.Downs.{links_known}
use Rattle.atspi_headline_links.proofs.Gots.{taken_so}
use Rattle.atspi_headline_links.proofs.Speaking.{bus_along}

-- what is known of each run
abbrev pub Kept : List Act → Type 0
Kept run = Lives (entries_in run) × LawOfDroppedEnds (entries_in run) × ReadersHold (entries_in run)

-- the other laws
others : (run : List Act) (w : World) → Ran run w None None → Kept run → ProvedLaws run
others run w r k = record {
  starts = record { begins = begins_with_line run w None None r; starts = starts_are_due run w None None r k.0 };
  steps = steps_follow run w None None r k.0;
  applications = apps_say run w None None r k.0;
  readers = record {
    registry_sends = registry_sends run w None None r k.0;
    apps_hear = apps_do_hear run w None None r k.0;
    readers_call = readers_call run w None None r k.0 k.2;
  };
  shown = rows_are_shown run w None None r k.0;
  spoken = lines_are_spoken run w None None r k.0;
  exits = record { exits = exits_are_due run w None None r k.0; told = ends_are_told run w None None r k.0; over = nothing_is_of run w None None r k.0 };
  drops = nothing_behind_drops run w None None r k.0 k.1;
}

taken_is_moved : (run : List Act) (w : World) → Ran run w None None → Kept run → WhatIsMovedIsTaken run
taken_is_moved run w r k = taken_so links_known run w r k.0

bus_says : (run : List Act) (w : World) → Ran run w None None → Kept run → BusSaysItsStep run
bus_says run w r k = (bus_along run w None None r k.0).words

-- all of these, of the run of a trace of which that is known
pub keeps : (run : List Act) (w : World) → Ran run w None None → Kept run → LawsKept run
keeps run w r k = record { laws = others run w r k; links = record { gots = taken_is_moved run w r k; words = bus_says run w r k } }

pub keep_laws : OfEachTrace (λ run. LawsKept run)
keep_laws = with_run (λ run. LawsKept run) keeps

pub what_is_taken : OfEachTrace WhatIsMovedIsTaken
what_is_taken = with_run WhatIsMovedIsTaken taken_is_moved

pub bus_does_say : OfEachTrace BusSaysItsStep
bus_does_say = with_run BusSaysItsStep bus_says
