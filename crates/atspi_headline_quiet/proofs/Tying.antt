-- THE LAW OF BUSY AND QUIET, whole, and which turns are made, where it is known what the links are (`LinksTied`).
use Rattle.std.proofs.Common.{◌≡◌, ℕ, true, false, List, [], ◌∷◌, ◌++◌, length, map, Option, None, Some, refl, sym, ap, ◌∙◌, subst, is_some}
use Rattle.std.specs.Prelude.{filter, not}
use Rattle.atspi_script_lines.specs.declared.line.Line.{Line}
use Rattle.atspi_script_lines.specs.declared.line.Line.TheVariants.{Blank, Quota, App as App_line, Reader as Reader_line, Edit as Edit_line, Call, Swap, Exit, Leave, Bytes, Turns, Drain, Show}
use Rattle.atspi_script_lines.specs.declared.line.Party.TheVariants.{Reader}
use Rattle.atspi_message.specs.Envelope.{Envelope}
use Rattle.atspi_trace.specs.Entry.{Entry, sent}
use Rattle.atspi_trace.specs.World.{World}
use Rattle.atspi_trace.specs.Causes as causes
use Rattle.atspi_trace.specs.Causes.{Cause, does}
use Rattle.atspi_trace.specs.Work as works
use Rattle.atspi_trace.specs.Work.{Work, resting, doing, moving_up, moving_down, turning, draining, with_conn, cause, rests, next_of}
use Rattle.atspi_headline.specs.Words.{Act, begins_line, moves_bytes, takes_end, writes, entries_in, is_move, wording, writes_a, Along, Unless, segment}
use Rattle.atspi_headline.specs.Links.{next_turn}
use Rattle.atspi_headline.specs.Headline.{IsTurn, word_due, TurnsAreMade, AllFollow, EndsWell, LineEndsWell, LawOfQuiet}
use Rattle.atspi_trace_laws.proofs.OfOwn.Writing.{Lives}
use Rattle.atspi_trace_played.proofs.BuildingFading as fading
use Rattle.atspi_trace_played.proofs.BuildingFuel.{is_turn}
use Rattle.atspi_headline_laws.proofs.Ran.{Ran, turn_move, moves_for, line_moves}
use Rattle.atspi_headline_laws.proofs.Dues.{along_more, along_map}
use Rattle.atspi_headline_laws.proofs.Joining.{ends_along}
use Rattle.atspi_headline_laws.proofs.Acting.{IsBareLine}
use Rattle.atspi_headline_quiet.proofs.Lining.{IsStage, NoLine, rests_no, lines_map, lines_along}
use Rattle.atspi_headline_quiet.proofs.Wording.{waits, IsOther, did_other, TurnsOn, turned, told, turns_on, DrainsOn, drained, ended, drains_on, Ended, Stage as WordStage, words_stage}
use Rattle.atspi_headline_quiet.proofs.Quieting.{settled_at}
use Rattle.atspi_headline_quiet.proofs.Marking.{marks_along}
use Rattle.atspi_headline_quiet.proofs.Standing.{stands_along}
use Rattle.atspi_headline_quiet.proofs.Waiting.{LinksAre, known_all, move_of, turn_is}

-- no bytes of a line `bytes` are at work
abbrev pub Steady : Option Work → Type 0
Steady (Some (moving_up conn count)) = ⊥
Steady (Some (moving_down conn count)) = ⊥
Steady at = Unit {0}

abbrev pub LinksTied : Type 0
LinksTied = (run : List Act) (w : World) (free : Option ℕ) (at : Option Work) → Ran run w free at → Lives (entries_in run) → Steady at → LinksAre run w

a_move : (w : World) (c : Cause) → fading.IsTurn c → is_some (move_of w (Some c)) ≡ true
a_move w (causes.routes conn) t = refl
a_move w (causes.unjoins conn) t = refl
a_move w (causes.gets conn) t = refl
a_move w c t = absurd t

still_waits : (w : World) → is_some (move_of w (works.next_turn w)) ≡ waits w
still_waits w = by (works.next_turn w) refl
  where
    by : (o : Option Cause) → works.next_turn w ≡ o → is_some (move_of w o) ≡ is_some o
    by None h = refl
    by (Some c) h = a_move w c (is_turn w c h)

-- WHICH TURNS A LINE MAKES
abbrev pub TurnsOf : List Act → Line → List Act → Type 0
TurnsOf before (Turns count) acts = Along IsTurn before acts
TurnsOf before Drain acts = Along IsTurn before acts
TurnsOf before line acts = Unit {0}

any_behind : (ys before : List Act) (act : Act) (behind : List Act) → IsTurn before act behind → IsTurn before act (behind ++ ys)
any_behind ys before (writes entry) behind h = h
any_behind ys before (begins_line line) behind h = h
any_behind ys before (moves_bytes who up count) behind h = h
any_behind ys before (takes_end who) behind h = h

turns_more : (before xs ys : List Act) → Along IsTurn before xs → Along IsTurn (before ++ xs) ys → Along IsTurn before (xs ++ ys)
turns_more before xs ys a b = along_more IsTurn before xs ys (along_map IsTurn (λ early act behind. IsTurn early act (behind ++ ys)) before xs (any_behind ys) a) b

turns_written : (before : List Act) (es : List Entry) → Along IsTurn before (map writes es)
turns_written before [] = tt
turns_written before (e ∷ es) = (tt, turns_written (before ++ writes e ∷ []) es)

one_turn : (before : List Act) (w : World) (c : Cause) (es : List Entry) → fading.IsTurn c → next_turn before ≡ move_of w (Some c) → Along IsTurn before (turn_move w c ++ map writes es)
one_turn before w (causes.routes conn) es t h = (h, turns_written _ es)
one_turn before w (causes.unjoins conn) es t h = (h, turns_written _ es)
one_turn before w (causes.gets conn) es t h = (h, turns_written _ es)
one_turn before w c es t h = absurd t

pub data Turning (before acts : List Act) : Line → Work → Type 0 where
  turning_ : (count n : ℕ) → Along IsTurn before acts → Turning before acts (Turns count) (turning count n)
  turned_ : (count : ℕ) → Along IsTurn before acts → Turning before acts (Turns count) resting
  draining_ : Along IsTurn before acts → Turning before acts Drain draining
  drained_ : Along IsTurn before acts → Turning before acts Drain resting
  none_ : (line : Line) (work : Work) → IsOther line → Turning before acts line work

abbrev pub Stage : List Act → Line → List Act → World → Option ℕ → Work → Type 0
Stage before line acts w free work = Turning before acts line work

began_other : (before : List Act) (w : World) (line : Line) → IsBareLine line → Turning before (line_moves w (works.work_of w line)) line (works.work_of w line)
began_other before w (Turns count) b = turning_ count count tt
began_other before w Drain b = draining_ tt
began_other before w Blank b = none_ Blank resting tt
began_other before w (Bytes who up count) b = none_ (Bytes who up count) (works.work_of w (Bytes who up count)) tt
began_other before w line b = absurd b

module _ (links : LinksTied) where
  pub next_is : (run : List Act) (w : World) (free : Option ℕ) (at : Option Work) → Ran run w free at → Lives (entries_in run) → Steady at → next_turn run ≡ move_of w (works.next_turn w)
  next_is run w free at r live steady =
      let ends = ends_along run w free at r in
      turn_is run w ends (known_all run w ends (stands_along run w free at r live) (marks_along run w free at r) (links run w free at r live steady))

  well_of : (before : List Act) (line : Line) (acts : List Act) → Ended before line acts → EndsWell before line acts
  well_of before line acts e =
      let same : waits e.world ≡ is_some (next_turn (before ++ acts)) = sym (ap is_some (next_is (before ++ acts) e.world None None e.ran e.lives tt) ∙ still_waits e.world) in
      record {
        told = subst (λ b. acts ≡ filter (λ act. not (writes_a wording act)) acts ++ word_due line b) same e.ending.told;
        made = subst (TurnsAreMade line (length (filter is_move acts))) same e.ending.made;
        settled = subst (λ b. Unless b (AllFollow (before ++ acts))) same (settled_at (before ++ acts) e.world e.ran e.lives e.well);
      }

  no_line : (before : List Act) (act : Act) (behind : List Act) → NoLine act → LineEndsWell false before act behind
  no_line before (begins_line line) behind n = absurd n
  no_line before (moves_bytes who up count) behind n = tt
  no_line before (takes_end who) behind n = tt
  no_line before (writes entry) behind n = tt

  -- THE LAW OF BUSY AND QUIET
  pub quiet_law : (run : List Act) (w : World) → Ran run w None None → Lives (entries_in run) → LawOfQuiet false run
  quiet_law run w r live =
      lines_map Ended (LineEndsWell false) run (λ before line behind e. well_of (before ++ begins_line line ∷ []) line (segment behind) e) no_line (lines_along Ended WordStage words_stage run w r live)

  caused_turning : (before : List Act) (line : Line) (acts : List Act) (w : World) (free : Option ℕ) (work left : Work) (c : Cause) → Turning before acts line work → Ran (before ++ acts) w free (Some work) → Lives (entries_in (before ++ acts))
      → next_of w work ≡ cause c w left → Turning before (acts ++ (moves_for w work c ++ map writes (does w c).entries)) line left
  caused_turning before _ acts w free _ left c (turning_ count n a) r live is = by (turns_on w count n c left is)
    where
      by : TurnsOn w count n c left → Turning before (acts ++ (turn_move w c ++ map writes (does w c).entries)) (Turns count) left
      by t = sort n c left (next_is (before ++ acts) w free (Some (turning count n)) r live tt) t
        where
          sort : (n : ℕ) (c : Cause) (left : Work) → next_turn (before ++ acts) ≡ move_of w (works.next_turn w) → TurnsOn w count n c left → Turning before (acts ++ (turn_move w c ++ map writes (does w c).entries)) (Turns count) left
          sort _ _ _ h (turned c m next) = turning_ count m (turns_more before acts _ a (one_turn (before ++ acts) w c (does w c).entries (is_turn w c next) (h ∙ ap (move_of w) next)))
          sort _ _ _ h (told waiting) = turned_ count (turns_more before acts _ a (turns_written (before ++ acts) (does w (causes.tells_busy count)).entries))
  caused_turning before _ acts w free _ left c (turned_ count a) r live is = absurd (rests_no w w c left is)
  caused_turning before _ acts w free _ left c (draining_ a) r live is = sort c left (next_is (before ++ acts) w free (Some draining) r live tt) (drains_on w c left is)
    where
      sort : (c : Cause) (left : Work) → next_turn (before ++ acts) ≡ move_of w (works.next_turn w) → DrainsOn w c left → Turning before (acts ++ (turn_move w c ++ map writes (does w c).entries)) Drain left
      sort _ _ h (drained c next) = draining_ (turns_more before acts _ a (one_turn (before ++ acts) w c (does w c).entries (is_turn w c next) (h ∙ ap (move_of w) next)))
      sort _ _ h (ended waiting) = drained_ (turns_more before acts _ a (turns_written (before ++ acts) (does w causes.tells_quiet).entries))
  caused_turning before _ acts w free _ left c (drained_ a) r live is = absurd (rests_no w w c left is)
  caused_turning before _ acts w free _ left c (none_ line work o) r live is = none_ line left o

  asked_turning : (before : List Act) (line : Line) (acts : List Act) (r : ℕ) (m : Envelope) (work : Work) → Turning before acts line work → Turning before (acts ++ writes (sent (Reader r) m) ∷ []) line work
  asked_turning before _ acts r m _ (turning_ count n a) = turning_ count n (turns_more before acts (writes (sent (Reader r) m) ∷ []) a (tt, tt))
  asked_turning before _ acts r m _ (turned_ count a) = turned_ count (turns_more before acts (writes (sent (Reader r) m) ∷ []) a (tt, tt))
  asked_turning before _ acts r m _ (draining_ a) = draining_ (turns_more before acts (writes (sent (Reader r) m) ∷ []) a (tt, tt))
  asked_turning before _ acts r m _ (drained_ a) = drained_ (turns_more before acts (writes (sent (Reader r) m) ∷ []) a (tt, tt))
  asked_turning before _ acts r m _ (none_ line work o) = none_ line work o

  rested_turning : (before : List Act) (line : Line) (acts : List Act) (work : Work) → Turning before acts line work → TurnsOf before line acts
  rested_turning before _ acts _ (turning_ count n a) = a
  rested_turning before _ acts _ (turned_ count a) = a
  rested_turning before _ acts _ (draining_ a) = a
  rested_turning before _ acts _ (drained_ a) = a
  rested_turning before _ acts _ (none_ line work o) = none_of line o
    where
      none_of : (line : Line) → IsOther line → TurnsOf before line acts
      none_of Blank o = tt
      none_of (Quota quota) o = tt
      none_of (App_line name) o = tt
      none_of Reader_line o = tt
      none_of (Edit_line app edit) o = tt
      none_of (Call reader app node deed) o = tt
      none_of (Swap app) o = tt
      none_of (Exit app) o = tt
      none_of (Leave reader) o = tt
      none_of (Bytes who up count) o = tt
      none_of (Turns count) o = absurd o
      none_of Drain o = absurd o
      none_of (Show reader app) o = tt

  pub turns_stage : IsStage TurnsOf Stage
  turns_stage = record {
    did_ = λ run w line c r d. none_ line resting (did_other w line (does w c) d);
    began_ = λ run w line r live ok b. began_other (run ++ begins_line line ∷ []) w line b;
    caused_ = λ before line acts w free work left c s r live is bare t. caused_turning before line acts w free work left c s r live is;
    asked_ = λ before line acts w conn r m question work s. asked_turning before line acts r m work s;
    rested_ = λ before line acts w v free work s r live is well. rested_turning before line acts work s;
  }
