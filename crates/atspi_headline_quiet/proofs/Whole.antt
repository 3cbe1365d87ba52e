-- THE LAWS OF SEGMENTS AND OF BUSY AND QUIET, whole, where it is known what the links are.
use Rattle.std.proofs.Common.{◌≡◌, ℕ, Bool, true, false, List, [], ◌∷◌, ◌++◌, None, refl, sym, ap, ◌∙◌, subst}
use Rattle.atspi_script_lines.specs.declared.line.Line.{Line}
use Rattle.atspi_script_lines.specs.declared.line.Line.TheVariants.{Blank, Quota, App as App_line, Reader as Reader_line, Edit as Edit_line, Call, Swap, Exit, Leave, Bytes, Turns, Drain, Show}
use Rattle.atspi_script_lines.specs.declared.line.Party.{Party}
use Rattle.atspi_trace.specs.World.{World}
use Rattle.atspi_headline.specs.Words.{Act, begins_line, moves_bytes, takes_end, writes, entries_in, Along, segment}
use Rattle.atspi_headline.specs.Links.{bytes_move}
use Rattle.atspi_headline.specs.Headline.{MovesOfLine, MovesBehind, LawOfSegments}
use Rattle.atspi_trace_laws.proofs.OfOwn.Writing.{Lives}
use Rattle.atspi_headline_laws.proofs.Ran.{Ran, up_move, down_move}
use Rattle.atspi_headline_laws.proofs.Dues.{along_map}
use Rattle.atspi_headline_laws.proofs.Joining.{ends_along}
use Rattle.atspi_headline_laws.proofs.Starts.{begins_with_line, starts_are_due}
use Rattle.atspi_headline_quiet.specs.Laws.{MovedAs}
use Rattle.atspi_headline_quiet.proofs.Lining.{BehindLine, lines_along}
use Rattle.atspi_headline_quiet.proofs.Marking.{marks_along}
use Rattle.atspi_headline_quiet.proofs.Standing.{stands_along}
use Rattle.atspi_headline_quiet.proofs.Waiting.{KnownAll, known_all}
use Rattle.atspi_headline_quiet.proofs.Moving.{MadeSo, IsMade, moves_along}
use Rattle.atspi_headline_quiet.proofs.Beginning.{next, MovesSo, up_made, down_made}
use Rattle.atspi_headline_quiet.proofs.Tying.{LinksTied, TurnsOf, Stage, turns_stage}

along_both : (Law Other : List Act → Act → List Act → Type 0) (before xs : List Act) → Along Law before xs → Along Other before xs → Along (λ early act behind. Law early act behind × Other early act behind) before xs
along_both Law Other before [] a b = tt
along_both Law Other before (x ∷ xs) a b = ((a.0, b.0), along_both Law Other (before ++ x ∷ []) xs a.1 b.1)

-- the move of a line `bytes` is the one that is due
abbrev IsDue : List Act → Party → Bool → ℕ → Act → Type 0
IsDue before who up count act = bytes_move before who up count ≡ act

of_made : (move : Act) (who : Party) (acts : List Act) → MovesSo move who acts → MadeSo (λ act. move ≡ act) who acts
of_made move who [] h = h
of_made move who (act ∷ acts) h = h

due_up : (run : List Act) (w : World) (who : Party) (count : ℕ) → KnownAll run w → IsMade w who true count (IsDue (run ++ begins_line (Bytes who true count) ∷ []) who true count)
due_up run w who count known = λ conn e at is.
    subst (λ p. MadeSo (λ act. bytes_move (next run who true count) p true count ≡ act) p (up_move count e e.standing)) is
    (of_made (bytes_move (next run who true count) e.who true count) e.who (up_move count e e.standing) (up_made run who true count e e.standing (known conn e at) refl))

due_down : (run : List Act) (w : World) (who : Party) (count : ℕ) → KnownAll run w → IsMade w who false count (IsDue (run ++ begins_line (Bytes who false count) ∷ []) who false count)
due_down run w who count known = λ conn e at is.
    subst (λ p. MadeSo (λ act. bytes_move (next run who false count) p false count ≡ act) p (down_move count e e.standing)) is
    (of_made (bytes_move (next run who false count) e.who false count) e.who (down_move count e e.standing) (down_made run who false count e e.standing (known conn e at) refl))

line_moves_so : (before : List Act) (line : Line) (acts : List Act) → MovedAs (IsDue before) line acts → TurnsOf before line acts → MovesOfLine before line acts
line_moves_so before (Bytes who up count) acts m t = m.1 ∙ ap (λ x. x ∷ []) (sym m.2)
line_moves_so before (Turns count) acts m t = t
line_moves_so before Drain acts m t = t
line_moves_so before Blank acts m t = m
line_moves_so before (Quota quota) acts m t = m
line_moves_so before (App_line name) acts m t = m
line_moves_so before Reader_line acts m t = m
line_moves_so before (Edit_line app edit) acts m t = m
line_moves_so before (Call reader app node deed) acts m t = m
line_moves_so before (Swap app) acts m t = m
line_moves_so before (Exit app) acts m t = m
line_moves_so before (Leave reader) acts m t = m
line_moves_so before (Show reader app) acts m t = m

act_moves_so : (before : List Act) (act : Act) (behind : List Act) → BehindLine (λ early line acts. MovedAs (IsDue early) line acts) before act behind × BehindLine TurnsOf before act behind → MovesBehind before act behind
act_moves_so before (begins_line line) behind h = line_moves_so (before ++ begins_line line ∷ []) line (segment behind) h.0 h.1
act_moves_so before (moves_bytes who up count) behind h = tt
act_moves_so before (takes_end who) behind h = tt
act_moves_so before (writes entry) behind h = tt

module _ (links : LinksTied) where
  known_between : (run : List Act) (w : World) → Ran run w None None → Lives (entries_in run) → KnownAll run w
  known_between run w r live = known_all run w (ends_along run w None None r) (stands_along run w None None r live) (marks_along run w None None r) (links run w None None r live tt)

  made_due : (run : List Act) (w : World) (who : Party) (up : Bool) (count : ℕ) → Ran run w None None → Lives (entries_in run) → IsMade w who up count (IsDue (run ++ begins_line (Bytes who up count) ∷ []) who up count)
  made_due run w who true count r live = due_up run w who count (known_between run w r live)
  made_due run w who false count r live = due_down run w who count (known_between run w r live)

  -- THE LAW OF SEGMENTS
  pub segments_law : (run : List Act) (w : World) → Ran run w None None → Lives (entries_in run) → LawOfSegments false run
  segments_law run w r live =
      let moves = moves_along IsDue made_due run w r live in
      let turns = lines_along TurnsOf Stage (turns_stage links) run w r live in
      record {
        begins = begins_with_line run w None None r;
        starts = starts_are_due run w None None r live;
        moves = along_map _ MovesBehind [] run act_moves_so (along_both (BehindLine (λ early line acts. MovedAs (IsDue early) line acts)) (BehindLine TurnsOf) [] run moves turns);
      }
