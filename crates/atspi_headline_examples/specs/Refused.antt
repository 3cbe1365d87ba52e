-- Which law alone refuses a run.
use Rattle.std.specs.Prelude.{Bool, true, false, List}
use Rattle.atspi_headline.specs.Words.{Act}
use Rattle.atspi_headline.specs.Headline.{LawOfSegments, LawOfSteps, LawOfApplications, LawOfLinks, LawOfReaders}
use Rattle.atspi_headline.specs.Headline.{LawOfShownRows, LawOfSpokenLines, LawOfExits, LawOfQuiet, LawOfDroppedEnds}

pub data Law : Type 0 where
  of_steps : Law
  of_applications : Law
  of_links : Law
  of_readers : Law
  of_shown_rows : Law
  of_spoken_lines : Law
  of_exits : Law
  of_quiet : Law
  of_dropped_ends : Law

abbrev pub is_law : Law → Law → Bool
is_law of_steps of_steps = true
is_law of_applications of_applications = true
is_law of_links of_links = true
is_law of_readers of_readers = true
is_law of_shown_rows of_shown_rows = true
is_law of_spoken_lines of_spoken_lines = true
is_law of_exits of_exits = true
is_law of_quiet of_quiet = true
is_law of_dropped_ends of_dropped_ends = true
is_law law other = false

-- it refuses the run, or else holds of it
abbrev pub RefusesIf : Bool → Type 0 → Type 0
RefusesIf true P = P → ⊥
RefusesIf false P = P

-- this law refuses the run, and all others hold of it
pub record IsRefusedBy (law : Law) (run : List Act) : Type 0 where
  pub segments : LawOfSegments false run
  pub steps : RefusesIf (is_law law of_steps) (LawOfSteps false run)
  pub applications : RefusesIf (is_law law of_applications) (LawOfApplications false run)
  pub links : RefusesIf (is_law law of_links) (LawOfLinks false run)
  pub readers : RefusesIf (is_law law of_readers) (LawOfReaders false run)
  pub shown : RefusesIf (is_law law of_shown_rows) (LawOfShownRows false run)
  pub spoken : RefusesIf (is_law law of_spoken_lines) (LawOfSpokenLines false run)
  pub exits : RefusesIf (is_law law of_exits) (LawOfExits false run)
  pub at_quiet : RefusesIf (is_law law of_quiet) (LawOfQuiet false run)
  pub drops : RefusesIf (is_law law of_dropped_ends) (LawOfDroppedEnds false run)
