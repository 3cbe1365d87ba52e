-- THE LAW OF BUSY AND QUIET, where it is left open whether something waits: the word that ends a line, its turns, and what readers hold where nothing waits.
use Rattle.std.proofs.Common.{List, [], ◌∷◌, ◌++◌, Option, None, Some}
use Rattle.std.specs.Prelude.{is_some}
use Rattle.atspi_script_lines.specs.declared.line.Line.{Line}
use Rattle.atspi_trace.specs.World.{World}
use Rattle.atspi_trace.specs.Causes.{Cause}
use Rattle.atspi_trace.specs.Work.{next_turn}
use Rattle.atspi_trace.specs.Due.{SettledUnless, RestsWell}
use Rattle.atspi_headline.specs.Words.{Act, begins_line, moves_bytes, takes_end, writes, entries_in, segment, Unless}
use Rattle.atspi_headline.specs.Headline.{AllFollow}
use Rattle.atspi_trace_laws.proofs.OfOwn.Writing.{Lives}
use Rattle.atspi_headline_quiet.specs.Laws.{EndsTold, LineEndsTold, LinesEndTold}
use Rattle.atspi_headline_laws.proofs.Ran.{Ran}
use Rattle.atspi_headline_quiet.proofs.Lining.{NoLine, lines_map, lines_along}
use Rattle.atspi_headline_quiet.proofs.Wording.{waits, Stage, Ended, words_stage}
use Rattle.atspi_headline_quiet.proofs.Following.{all_follow}

-- where nothing waits all is settled
pub settled_at : (run : List Act) (w : World) → Ran run w None None → Lives (entries_in run) → RestsWell w → Unless (waits w) (AllFollow run)
settled_at run w r live well = by (next_turn w) well
  where
    by : (o : Option Cause) → SettledUnless w o → Unless (is_some o) (AllFollow run)
    by (Some c) s = tt
    by None s = all_follow run w None None r live s

ends_told : (before : List Act) (line : Line) (acts : List Act) → Ended before line acts → EndsTold before line acts
ends_told before line acts e = record { waits = waits e.world; told = e.ending.told; made = e.ending.made; settled = settled_at (before ++ acts) e.world e.ran e.lives e.well }

no_line : (before : List Act) (act : Act) (behind : List Act) → NoLine act → LineEndsTold before act behind
no_line before (begins_line line) behind n = absurd n
no_line before (moves_bytes who up count) behind n = tt
no_line before (takes_end who) behind n = tt
no_line before (writes entry) behind n = tt

pub lines_end : (run : List Act) (w : World) → Ran run w None None → Lives (entries_in run) → LinesEndTold run
lines_end run w r live =
    lines_map Ended LineEndsTold run (λ before line behind e. ends_told (before ++ begins_line line ∷ []) line (segment behind) e) no_line (lines_along Ended Stage words_stage run w r live)
