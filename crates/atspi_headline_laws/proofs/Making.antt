-- THE RUN OF A LAWFUL TRACE: along the entries of a trace, cause by cause, the run grows that has these entries and these lines.
use Rattle.std.proofs.Common.{◌≡◌, inl, inr, ℕ, zero, suc, Bool, true, false, List, [], ◌∷◌, ◌++◌, length, map, None, Some, refl, arith, sym, ap, ◌∙◌, subst}
use Rattle.std.specs.Prelude.{Option, if◌then◌else◌}
use Rattle.std.specs.List.{AllByRecursion}
use Rattle.std.proofs.lemmas.List.{append-nil, append_assoc}
use Rattle.atspi_script_lines.specs.declared.line.Line.{Line}
use Rattle.atspi_script_lines.specs.declared.line.Party.TheVariants.{Bus as The_bus, Registry, App, Reader}
use Rattle.atspi_message.specs.Envelope.{Envelope}
use Rattle.atspi_protocol.specs.declared.following.question.Question.{Question}
use Rattle.atspi_trace.specs.Entry.{Entry, started, changed, sent, got, heard, unheard, spoke, showed, exited, gone, dropped, busy, quiet}
use Rattle.atspi_trace.specs.World.{Standing, here, stopped, away, End, World}
use Rattle.atspi_trace.specs.Ends.{end_at}
use Rattle.atspi_trace.specs.Causes as causes
use Rattle.atspi_trace.specs.Causes.{Cause, does, at_end}
use Rattle.atspi_trace.specs.Work.{Refusal, refused, Work, resting, doing, moving_up, moving_down, turning, draining, work_of, Next, cause, rests, next_of}
use Rattle.atspi_trace.specs.Due.{Progress, freed, rested as at_rest, wrote as wrote_so, done, went, progress, bound, Scene, begins, scene_of, line_done, line_worked, unless_refused, from_lines, is_lost, onward, at_work_owing, at_work, first_entry, due, rest_entries, writes as writes_due, asks_at, asks_freely, own_or_due, chosen, happens_owing, happens, after_all, IsOwnCall, Stands, Goes, RestsWell, Lawful}
use Rattle.atspi_headline.specs.Words.{Act, begins_line, moves_bytes, takes_end, writes, lines_in, entries_in}
use Rattle.atspi_trace_laws.specs.order.Scripts.{CanStand, CanAllStand}
use Rattle.atspi_trace_laws.proofs.OfOrder.Parties.{no_none, same_some, false_true, all_front, all_back}
use Rattle.atspi_trace_laws.proofs.OfOrder.Allowed.{Allowed, Moves, Asks, IsBare, IsWork, bare-work, NextFine}
use Rattle.atspi_trace_laws.proofs.OfOrder.Next.{line_fine, next_fine}
use Rattle.atspi_trace_laws.proofs.OfOrder.Plain.{NotOwn, FirstPlain, does_plain}
use Rattle.atspi_trace_played.proofs.BuildingFuel.{not_empty, Enough, Goes_silent, enough, silent_next}
use Rattle.atspi_headline_laws.proofs.Ran.{Ran, nothing_yet, did, began, caused, rested, asked, turn_move, stopped_move, moves_for, up_move, down_move, at_known, line_moves}

-- WHAT A RUN HAS: its lines and its entries, piece by piece
pub lines_more : (xs ys : List Act) → lines_in (xs ++ ys) ≡ lines_in xs ++ lines_in ys
lines_more [] ys = refl
lines_more (begins_line line ∷ xs) ys = ap (λ l. line ∷ l) (lines_more xs ys)
lines_more (moves_bytes who up count ∷ xs) ys = lines_more xs ys
lines_more (takes_end who ∷ xs) ys = lines_more xs ys
lines_more (writes entry ∷ xs) ys = lines_more xs ys

pub entries_more : (xs ys : List Act) → entries_in (xs ++ ys) ≡ entries_in xs ++ entries_in ys
entries_more [] ys = refl
entries_more (begins_line line ∷ xs) ys = entries_more xs ys
entries_more (moves_bytes who up count ∷ xs) ys = entries_more xs ys
entries_more (takes_end who ∷ xs) ys = entries_more xs ys
entries_more (writes entry ∷ xs) ys = ap (λ l. entry ∷ l) (entries_more xs ys)

pub lines_written : (es : List Entry) → lines_in (map writes es) ≡ []
lines_written [] = refl
lines_written (e ∷ es) = lines_written es

pub entries_written : (es : List Entry) → entries_in (map writes es) ≡ es
entries_written [] = refl
entries_written (e ∷ es) = ap (λ l. e ∷ l) (entries_written es)

-- moves alone
abbrev pub AllMoves : List Act → Type 0
AllMoves [] = Unit {0}
AllMoves (moves_bytes who up count ∷ acts) = AllMoves acts
AllMoves (takes_end who ∷ acts) = AllMoves acts
AllMoves (begins_line line ∷ acts) = ⊥
AllMoves (writes entry ∷ acts) = ⊥

pub no_lines : (acts : List Act) → AllMoves acts → lines_in acts ≡ []
no_lines [] m = refl
no_lines (moves_bytes who up count ∷ acts) m = no_lines acts m
no_lines (takes_end who ∷ acts) m = no_lines acts m
no_lines (begins_line line ∷ acts) m = absurd m
no_lines (writes entry ∷ acts) m = absurd m

pub no_entries : (acts : List Act) → AllMoves acts → entries_in acts ≡ []
no_entries [] m = refl
no_entries (moves_bytes who up count ∷ acts) m = no_entries acts m
no_entries (takes_end who ∷ acts) m = no_entries acts m
no_entries (begins_line line ∷ acts) m = absurd m
no_entries (writes entry ∷ acts) m = absurd m

turn_moves : (w : World) (c : Cause) → AllMoves (turn_move w c)
turn_moves w (causes.routes conn) = tt
turn_moves w (causes.gets conn) = tt
turn_moves w (causes.unjoins conn) = tt
turn_moves w c = tt

stopped_moves : (w : World) (c : Cause) → AllMoves (stopped_move w c)
stopped_moves w (causes.unjoins conn) = tt
stopped_moves w c = tt

pub moves_are : (w : World) (work : Work) (c : Cause) → AllMoves (moves_for w work c)
moves_are w (turning count left) c = turn_moves w c
moves_are w draining c = turn_moves w c
moves_are w (moving_up conn count) c = stopped_moves w c
moves_are w resting c = tt
moves_are w (doing d) c = tt
moves_are w (moving_down conn count) c = tt

up_moves : (count : ℕ) (e : End) (st : Standing) → AllMoves (up_move count e st)
up_moves count e here = tt
up_moves zero e stopped = tt
up_moves zero e away = tt
up_moves (suc count) e stopped = tt
up_moves (suc count) e away = tt

down_moves : (count : ℕ) (e : End) (st : Standing) → AllMoves (down_move count e st)
down_moves count e here = tt
down_moves count e stopped = tt
down_moves count e away = tt

known_moves : (o : Option End) (acts : End → List Act) → ((e : End) → AllMoves (acts e)) → AllMoves (at_known o acts)
known_moves None acts f = tt
known_moves (Some e) acts f = f e

pub line_moves_are : (w : World) (work : Work) → AllMoves (line_moves w work)
line_moves_are w (moving_up conn count) = known_moves (end_at w.ends conn) (λ e. up_move count e e.standing) (λ e. up_moves count e e.standing)
line_moves_are w (moving_down conn count) = known_moves (end_at w.ends conn) (λ e. down_move count e e.standing) (λ e. down_moves count e e.standing)
line_moves_are w (turning count left) = tt
line_moves_are w draining = tt
line_moves_are w resting = tt
line_moves_are w (doing c) = tt

-- moves, and then entries
pub lines_of_both : (acts : List Act) (es : List Entry) → AllMoves acts → lines_in (acts ++ map writes es) ≡ []
lines_of_both acts es m = lines_more acts (map writes es) ∙ ap (λ l. l ++ lines_in (map writes es)) (no_lines acts m) ∙ lines_written es

pub entries_of_both : (acts : List Act) (es : List Entry) → AllMoves acts → entries_in (acts ++ map writes es) ≡ es
entries_of_both acts es m = entries_more acts (map writes es) ∙ ap (λ l. l ++ entries_in (map writes es)) (no_entries acts m) ∙ entries_written es

-- between lines no reader may send a call
none_free : (run : List Act) (w : World) (free : Option ℕ) (work : Option Work) (conn : ℕ) → Ran run w free work → free ≡ Some conn → work ≡ None → ⊥
none_free _ _ _ _ conn nothing_yet h g = no_none conn h
none_free _ _ _ _ conn (did run w line c r ok can is a) h g = no_none resting (sym g)
none_free _ _ _ _ conn (began run w line r ok can b) h g = no_none conn h
none_free _ _ _ _ conn (caused run w free work left c r is b a) h g = no_none left (sym g)
none_free _ _ _ _ conn (rested run w v free work r is m well) h g = no_none conn h
none_free _ _ _ _ conn (asked run w k r m question work x a) h g = no_none conn h

true_false : true ≡ false → ⊥
true_false h = false_true (sym h)

no_cause : (c : Cause) (v w : World) (work : Work) → cause c v work ≡ rests w → ⊥
no_cause c v w work h = cc

no_room : (w : World) (work : Work) → Enough 0 w work → work ≡ resting
no_room w resting e = refl
no_room w (doing c) e = absurd (omega (arith, e))
no_room w (moving_up conn count) e = absurd (omega (arith, e))
no_room w (moving_down conn count) e = absurd (omega (arith, e))
no_room w (turning count left) e = absurd (omega (arith, e))
no_room w draining e = absurd (omega (arith, e))

-- where nothing is owed, what is due is no own call
chosen_due : (s : Scene) (entry : Entry) → NotOwn entry → chosen s entry ≡ writes_due s
chosen_due s (sent (Reader r) e) h = ap (own_or_due s e) h
chosen_due s (sent The_bus e) h = refl
chosen_due s (sent Registry e) h = refl
chosen_due s (sent (App a) e) h = refl
chosen_due s (started who name) h = refl
chosen_due s (changed app step) h = refl
chosen_due s (got taker sender serial) h = refl
chosen_due s (heard app listener pattern) h = refl
chosen_due s (unheard app listener pattern) h = refl
chosen_due s (spoke reader app text) h = refl
chosen_due s (showed reader app rows) h = refl
chosen_due s (exited who) h = refl
chosen_due s (gone reader app) h = refl
chosen_due s (dropped who queued len) h = refl
chosen_due s (busy turns) h = refl
chosen_due s quiet h = refl

first_plain : (l : List Entry) (entry : Entry) → first_entry l ≡ Some entry → FirstPlain l → NotOwn entry
first_plain [] entry h p = absurd (no_none entry h)
first_plain (e ∷ es) entry h p = subst NotOwn (same_some e entry h) p

-- a list that begins so
begins_so : (l : List Entry) (entry : Entry) → first_entry l ≡ Some entry → l ≡ entry ∷ rest_entries l
begins_so [] entry h = absurd (no_none entry h)
begins_so (e ∷ es) entry h = ap (λ x. x ∷ es) (same_some e entry h)

abbrev Hyp : List World → Type 0
Hyp passed = AllByRecursion RestsWell passed

-- THE SCRIPT so far, and the entries
abbrev Fits : Option Work → Work → Type 0
Fits (Some work) other = work ≡ other
Fits None other = other ≡ resting

module _ (script : List Line) where
  -- a run with these entries, which leads to this world with this left of its line, and these lines are to come
  pub record Made (es : List Entry) (w : World) (free : Option ℕ) (work : Work) (left : List Line) : Type 0 where
    pub run : List Act
    pub at : Option Work
    pub fits : Fits at work
    pub ran : Ran run w free at
    pub has_entries : entries_in run ≡ es
    pub has_lines : lines_in run ++ left ≡ script

  -- and all its lines are done
  pub record Done (es : List Entry) (w : World) (left : List Line) : Type 0 where
    pub run : List Act
    pub ran : Ran run w None None
    pub has_entries : entries_in run ≡ es
    pub has_lines : lines_in run ++ left ≡ script

  of_done : (es : List Entry) (w : World) (left : List Line) → Done es w left → Made es w None resting left
  of_done es w left d = record { run = d.run; at = None; fits = refl; ran = d.ran; has_entries = d.has_entries; has_lines = d.has_lines }

  more_entries : (run acts : List Act) (es ys : List Entry) → entries_in run ≡ es → entries_in acts ≡ ys → entries_in (run ++ acts) ≡ es ++ ys
  more_entries run acts es ys h g = entries_more run acts ∙ ap (λ l. l ++ entries_in acts) h ∙ ap (λ l. es ++ l) g

  same_lines : (run acts : List Act) (left : List Line) → lines_in acts ≡ [] → lines_in run ++ left ≡ script → lines_in (run ++ acts) ++ left ≡ script
  same_lines run acts left h g = ap (λ l. l ++ left) (lines_more run acts ∙ ap (λ l. lines_in run ++ l) h ∙ append-nil (lines_in run)) ∙ g

  next_line : (run acts : List Act) (line : Line) (left : List Line) → lines_in acts ≡ line ∷ [] → lines_in run ++ line ∷ left ≡ script → lines_in (run ++ acts) ++ left ≡ script
  next_line run acts line left h g =
      ap (λ l. l ++ left) (lines_more run acts ∙ ap (λ l. lines_in run ++ l) h) ∙ append_assoc (lines_in run) (line ∷ []) left ∙ g

  -- what a progress comes to: entries are owed, or a world rests and, if that is well, a line is done
  abbrev Outcome : List Entry → List Line → Progress → List Entry → Type 0
  Outcome es left p [] = RestsWell p.world → Done es p.world left
  Outcome es left p (e ∷ l) = Made (es ++ e ∷ l) p.world p.free p.work left × IsBare p.work × NotOwn e

  comes_to_rest : (es : List Entry) (w v : World) (free : Option ℕ) (work : Work) (left : List Line) → Made es w free work left → next_of w work ≡ rests v → Moves w v → RestsWell v → Done es v left
  comes_to_rest es w v free work left m is moves well = by m.at m.fits m.ran
    where
      by : (at : Option Work) → Fits at work → Ran m.run w free at → Done es v left
      by (Some x) f r =
          record { run = m.run; ran = rested m.run w v free x r (ap (next_of w) f ∙ is) moves well; has_entries = m.has_entries; has_lines = m.has_lines }
      by None f r = at_free free refl r
        where
          rest_of_next : Next → World → World
          rest_of_next (rests u) x = u
          rest_of_next (cause c u k) x = x

          same : w ≡ v
          same = ap (λ n. rest_of_next n w) (ap (next_of w) (sym f) ∙ is)

          at_free : (o : Option ℕ) → free ≡ o → Ran m.run w o None → Done es v left
          at_free None g x = record { run = m.run; ran = subst (λ u. Ran m.run u None None) same x; has_entries = m.has_entries; has_lines = m.has_lines }
          at_free (Some conn) g x = absurd (none_free m.run w (Some conn) None conn x refl refl)

  -- a cause is done
  goes_on : (es : List Entry) (w : World) (free : Option ℕ) (work rest : Work) (c : Cause) (left : List Line) → Made es w free work left → next_of w work ≡ cause c w rest → IsBare work → Allowed w c
      → Made (es ++ (does w c).entries) (does w c).world (freed c) rest left
  goes_on es w free work rest c left m is bare a = by m.at m.fits m.ran
    where
      acts : List Act
      acts = moves_for w work c ++ map writes (does w c).entries

      by : (at : Option Work) → Fits at work → Ran m.run w free at → Made (es ++ (does w c).entries) (does w c).world (freed c) rest left
      by (Some x) f r =
          record {
            run = m.run ++ acts;
            at = Some rest;
            fits = refl;
            ran = caused m.run w free work rest c (subst (λ y. Ran m.run w free (Some y)) f r) is bare a;
            has_entries = more_entries m.run acts es (does w c).entries m.has_entries (entries_of_both (moves_for w work c) (does w c).entries (moves_are w work c));
            has_lines = same_lines m.run acts left (lines_of_both (moves_for w work c) (does w c).entries (moves_are w work c)) m.has_lines;
          }
      by None f r = absurd (no_cause c w w rest (sym is ∙ ap (next_of w) f))

  -- what was written, and what then goes on
  abbrev Goes_on : ℕ → Type 0
  Goes_on n = (es : List Entry) (w : World) (free : Option ℕ) (work : Work) (left : List Line) → Made es w free work left → IsBare work → Enough n w work
      → Outcome es left (progress n w work) (progress n w work).owing

  wrote_outcome : (n : ℕ) → Goes_on n → (es : List Entry) (w : World) (free : Option ℕ) (work : Work) (left : List Line) (l : List Entry) → Made (es ++ l) w free work left → IsBare work → (l ≡ [] → Enough n w work)
      → FirstPlain l → Outcome es left (wrote_so (λ v rest. progress n v rest) w free work l) (wrote_so (λ v rest. progress n v rest) w free work l).owing
  wrote_outcome n ih es w free work left [] m bare room plain = ih es w free work left (subst (λ l. Made l w free work left) (append-nil es) m) bare (room refl)
  wrote_outcome n ih es w free work left (e ∷ l) m bare room plain = (m, bare, plain)

  progressed : (n : ℕ) → Goes_on n
  progressed zero es w free work left m bare room = λ well. comes_to_rest es w w free work left m (ap (next_of w) (no_room w work room)) (inl refl) well
  progressed (suc n) es w free work left m bare room = by (progressed n) (next_of w work) refl (next_fine w work (bare-work w work bare)) (silent_next n w work room)
    where
      by : Goes_on n → (x : Next) → next_of w work ≡ x → NextFine w x → Goes_silent n x
          → Outcome es left (went (λ v rest. progress n v rest) x) (went (λ v rest. progress n v rest) x).owing
      by ih (rests v) is fine silent = λ well. comes_to_rest es w v free work left m is fine well
      by ih (cause c v rest) is fine silent =
          subst (λ u. Outcome es left (done (λ v rest. progress n v rest) (does u c) (freed c) rest) (done (λ v rest. progress n v rest) (does u c) (freed c) rest).owing) (sym fine.0)
          (wrote_outcome n ih es (does w c).world (freed c) rest left (does w c).entries
          (goes_on es w free work rest c left m (is ∙ ap (λ u. cause c u rest) fine.0) bare fine.1) fine.2
          (subst (λ u. (does u c).entries ≡ [] → Enough n (does u c).world rest) fine.0 silent) (does_plain w c))

  -- A LINE begins
  line_goes : (es : List Entry) (w : World) (line : Line) (left : List Line) → Done es w (line ∷ left) → refused w line ≡ None → CanStand line
      → Outcome es left (progress (bound w) w (work_of w line)) (progress (bound w) w (work_of w line)).owing
  line_goes es w line left d ok can = by (work_of w line) refl (line_fine w line can ok)
    where
      bare_line : (x : Work) → work_of w line ≡ x → IsBare x → Made es w None x left
      bare_line x is bare =
          let acts : List Act = begins_line line ∷ line_moves w (work_of w line) in
          record {
            run = d.run ++ acts;
            at = Some (work_of w line);
            fits = is;
            ran = began d.run w line d.ran ok can (subst IsBare (sym is) bare);
            has_entries = more_entries d.run acts es [] d.has_entries (no_entries (line_moves w (work_of w line)) (line_moves_are w (work_of w line))) ∙ append-nil es;
            has_lines = next_line d.run acts line left (ap (λ l. line ∷ l) (no_lines (line_moves w (work_of w line)) (line_moves_are w (work_of w line)))) d.has_lines;
          }

      done_line : (c : Cause) → work_of w line ≡ doing c → Allowed w c → Made (es ++ (does w c).entries) (does w c).world (freed c) resting left
      done_line c is a =
          let acts : List Act = begins_line line ∷ map writes (does w c).entries in
          record {
            run = d.run ++ acts;
            at = Some resting;
            fits = refl;
            ran = did d.run w line c d.ran ok can is a;
            has_entries = more_entries d.run acts es (does w c).entries d.has_entries (entries_written (does w c).entries);
            has_lines = next_line d.run acts line left (ap (λ l. line ∷ l) (lines_written (does w c).entries)) d.has_lines;
          }

      by : (x : Work) → work_of w line ≡ x → IsWork w x → Outcome es left (progress (bound w) w x) (progress (bound w) w x).owing
      by (doing c) is a =
          wrote_outcome (suc (length w.ends)) (progressed (suc (length w.ends))) es (does w c).world (freed c) resting left (does w c).entries (done_line c is a) tt (λ none. tt) (does_plain w c)
      by resting is a = progressed (bound w) es w None resting left (bare_line resting is tt) tt tt
      by (moving_up conn count) is a = progressed (bound w) es w None (moving_up conn count) left (bare_line (moving_up conn count) is tt) tt (enough w (moving_up conn count))
      by (moving_down conn count) is a = progressed (bound w) es w None (moving_down conn count) left (bare_line (moving_down conn count) is tt) tt (enough w (moving_down conn count))
      by (turning count n) is a = progressed (bound w) es w None (turning count n) left (bare_line (turning count n) is tt) tt (enough w (turning count n))
      by draining is a = progressed (bound w) es w None draining left (bare_line draining is tt) tt (enough w draining)

  -- SCENES: a run leads to the scene, if all that was passed is well
  abbrev Good : List Entry → Scene → Type 0
  Good es s = Made (es ++ s.owing) s.world s.free s.work s.left × IsBare s.work × CanAllStand s.left

  abbrev Kept : List Entry → Scene → Type 0
  Kept es s = Hyp s.passed → Good es s

  abbrev Fresh : List Entry → Scene → Type 0
  Fresh es s = Hyp s.passed → Good es s × FirstPlain s.owing

  abbrev Lined : List Entry → World → List Line → List World → Type 0
  Lined es w left passed = Hyp passed → Done es w left × CanAllStand left

  abbrev Next_lines : List Entry → List Line → (World → List World → Scene) → Type 0
  Next_lines es left next = (v : World) (ws : List World) → Lined es v left ws → Fresh es (next v ws)

  worked : (next : World → List World → Scene) (es : List Entry) (passed : List World) (left : List Line) (p : Progress) (l : List Entry) → p.owing ≡ l → (Hyp passed → Outcome es left p l × CanAllStand left)
      → Next_lines es left next → Fresh es (line_done next passed left p l)
  worked next es passed left p [] h o ih =
      ih p.world (passed ++ p.world ∷ [])
      (λ all. let x = o (all_front RestsWell passed (p.world ∷ []) all) in (x.0 (all_back RestsWell passed (p.world ∷ []) all).0, x.1))
  worked next es passed left p (e ∷ l) h o ih = λ all. let x = o all in (
    (subst (λ k. Made (es ++ k) p.world p.free p.work left) (sym h) x.0.0, x.0.1, x.1),
    subst FirstPlain (sym h) x.0.2,
  )

  stuck : (es : List Entry) (w : World) (passed : List World) (left : List Line) → Lined es w left passed → Fresh es (scene_of (at_rest w) passed left)
  stuck es w passed left d = λ all. let x = d all in (
    (subst (λ k. Made k w None resting left) (sym (append-nil es)) (of_done es w left x.0), tt, x.1),
    tt,
  )

  line_made : (es : List Entry) (w : World) (line : Line) (left : List Line) (passed : List World) → Lined es w (line ∷ left) passed → refused w line ≡ None
      → Hyp passed → Outcome es left (progress (bound w) w (work_of w line)) (progress (bound w) w (work_of w line)).owing × CanAllStand left
  line_made es w line left passed d ok all = let x = d all in (line_goes es w line left x.0 ok x.1.0, x.1.1)

  lines_made : (left : List Line) (es : List Entry) (w : World) (passed : List World) → Lined es w left passed → Fresh es (from_lines left w passed)
  lines_made [] es w passed d = stuck es w passed [] d
  lines_made (line ∷ left) es w passed d = by (λ v ws j. lines_made left es v ws j) (refused w line) refl
    where
      p : Progress
      p = progress (bound w) w (work_of w line)

      by : Next_lines es left (λ v ws. from_lines left v ws) → (o : Option Refusal) → refused w line ≡ o
          → Fresh es (unless_refused o (line_worked (λ v ws. from_lines left v ws) passed left p) (scene_of (at_rest w) passed (line ∷ left)))
      by ih None ok = worked (λ v ws. from_lines left v ws) es passed left p p.owing refl (line_made es w line left passed d ok) ih
      by ih (Some why) ok = stuck es w passed (line ∷ left) d

  onward_made : (es : List Entry) (s : Scene) → s.owing ≡ [] → Kept es s → Hyp s.passed → Outcome es s.left (progress (bound s.world) s.world s.work) (progress (bound s.world) s.world s.work).owing × CanAllStand s.left
  onward_made es s none k all =
      let x = k all in (
        progressed (bound s.world) es s.world s.free s.work s.left (subst (λ l. Made l s.world s.free s.work s.left) (ap (λ l. es ++ l) none ∙ append-nil es) x.0) x.1 (enough s.world s.work),
        x.2,
      )

  onward_fresh : (es : List Entry) (s : Scene) → s.owing ≡ [] → Kept es s → Fresh es (onward s)
  onward_fresh es s none k = by (is_lost s.world)
    where
      p : Progress
      p = progress (bound s.world) s.world s.work

      by : (b : Bool) → Fresh es (if b then s else line_worked (λ v ws. from_lines s.left v ws) s.passed s.left p)
      by true = λ all. (k all, subst FirstPlain (sym none) tt)
      by false = worked (λ v ws. from_lines s.left v ws) es s.passed s.left p p.owing refl (onward_made es s none k) (λ v ws j. lines_made s.left es v ws j)

  at_work_kept : (es : List Entry) (s : Scene) (l : List Entry) → s.owing ≡ l → Kept es s → Kept es (at_work_owing s l)
  at_work_kept es s [] h k = λ all. (onward_fresh es s h k all).0
  at_work_kept es s (e ∷ l) h k = k

  -- an entry that is due is written
  writes_kept : (es : List Entry) (s : Scene) (entry : Entry) → Kept es s → due s ≡ Some entry → Hyp (at_work s).passed → Kept (es ++ entry ∷ []) (writes_due s)
  writes_kept es s entry k d rest all =
      let t : Scene = at_work s in
      let g : Good es t = at_work_kept es s s.owing refl k rest in (
        subst (λ l. Made l t.world t.free t.work t.left) (ap (λ l. es ++ l) (begins_so t.owing entry d) ∙ sym (append_assoc es (entry ∷ []) (rest_entries t.owing))) g.0,
        g.1,
        g.2,
      )

  is_writing : (es : List Entry) (s : Scene) (entry : Entry) (l : List Entry) → s.owing ≡ l → Kept es s → first_entry (at_work_owing s l).owing ≡ Some entry → Hyp (at_work_owing s l).passed
      → happens_owing s entry l ≡ writes_due s
  is_writing es s entry (e ∷ l) h k d rest = refl
  is_writing es s entry [] h k d rest = chosen_due s entry (first_plain (onward s).owing entry d (onward_fresh es s h k rest).1)

  due_kept : (es : List Entry) (s : Scene) (entry : Entry) → Kept es s → due s ≡ Some entry → Hyp (at_work s).passed → Kept (es ++ entry ∷ []) (happens s entry)
  due_kept es s entry k d rest = subst (Kept (es ++ entry ∷ [])) (sym (is_writing es s entry s.owing refl k d rest)) (writes_kept es s entry k d rest)

  -- an own call
  own_made : (es : List Entry) (w : World) (conn r : ℕ) (m : Envelope) (question : Question) (work : Work) (left : List Line) → Made es w (Some conn) work left → Asks w conn r m question
      → Made (es ++ sent (Reader r) m ∷ []) (at_end w conn (asks_at m question)) None work left
  own_made es w conn r m question work left x a = record {
    run = x.run ++ writes (sent (Reader r) m) ∷ [];
    at = x.at;
    fits = x.fits;
    ran = asked x.run w conn r m question x.at x.ran a;
    has_entries = more_entries x.run (writes (sent (Reader r) m) ∷ []) es (sent (Reader r) m ∷ []) x.has_entries refl;
    has_lines = same_lines x.run (writes (sent (Reader r) m) ∷ []) left refl x.has_lines;
  }

  own_kept : (es : List Entry) (s : Scene) (r : ℕ) (e : Envelope) → Kept es s → IsOwnCall s r e → Kept (es ++ sent (Reader r) e ∷ []) (happens s (sent (Reader r) e))
  own_kept es s r e k own =
      let after : World = at_end s.world own.conn (asks_at e own.question) in
      let is : happens s (sent (Reader r) e) ≡ record s { world = after; free = None } =
      ap (happens_owing s (sent (Reader r) e)) own.nothing_owed ∙ ap (own_or_due s e) own.read ∙ ap (λ o. asks_freely s o e own.question) own.free in
      let none : (l : List Entry) → l ++ s.owing ≡ l = λ l. ap (λ x. l ++ x) own.nothing_owed ∙ append-nil l in
      subst (Kept (es ++ sent (Reader r) e ∷ [])) (sym is)
      (λ all. let g : Good es s = k all in (
        subst (λ l. Made l after None s.work s.left) (sym (none (es ++ sent (Reader r) e ∷ [])))
            (own_made es s.world own.conn r e own.question s.work s.left (subst (λ o. Made es s.world o s.work s.left) own.free (subst (λ l. Made l s.world s.free s.work s.left) (none es) g.0)) (record {
              asker = own.asker;
              hearer = own.hearer;
              is_here = record { there = own.there; standing = own.standing };
              whose = own.whose;
              reader = own.reader;
              answered = own.answered;
              allowed = own.allowed;
              spelled = own.spelled;
              read = own.read;
            })),
        g.1,
        g.2,
      ))

  stands_kept : (es : List Entry) (s : Scene) (entry : Entry) → Kept es s → Stands s entry → Kept (es ++ entry ∷ []) (happens s entry)
  stands_kept es s entry k (inl d) = due_kept es s entry k d.next d.all_rest
  stands_kept es s (sent (Reader r) e) k (inr own) = own_kept es s r e k own
  stands_kept es s entry k (inr own) = absurd own

  along : (trace es : List Entry) (s : Scene) → Kept es s → Goes s trace → Kept (es ++ trace) (after_all s trace)
  along [] es s k g = subst (λ l. Kept l s) (sym (append-nil es)) k
  along (entry ∷ trace) es s k g =
      subst (λ l. Kept l (after_all (happens s entry) trace)) (append_assoc es (entry ∷ []) trace)
      (along trace (es ++ entry ∷ []) (happens s entry) (stands_kept es s entry k g.0) g.1)

  -- THE END of all lines
  abbrev pub Finished : List Entry → Type 0
  Finished es = (v : World) × Done es v [] × (is_lost v ≡ false)

  abbrev All_done : List Entry → List Line → Type 0
  All_done es left = (v : World) (ws : List World) → Lined es v left ws → (from_lines left v ws).owing ≡ [] → (from_lines left v ws).left ≡ [] → Hyp (from_lines left v ws).passed → is_lost (from_lines left v ws).world ≡ false → Finished es

  worked_done : (es : List Entry) (passed : List World) (left : List Line) (p : Progress) (l : List Entry) → p.owing ≡ l → (Hyp passed → Outcome es left p l × CanAllStand left)
      → (line_done (λ v ws. from_lines left v ws) passed left p l).owing ≡ [] → (line_done (λ v ws. from_lines left v ws) passed left p l).left ≡ []
      → Hyp (line_done (λ v ws. from_lines left v ws) passed left p l).passed → is_lost (line_done (λ v ws. from_lines left v ws) passed left p l).world ≡ false
      → All_done es left → Finished es
  worked_done es passed left p [] h o none empty all alive ih =
      ih p.world (passed ++ p.world ∷ [])
      (λ rest. let x = o (all_front RestsWell passed (p.world ∷ []) rest) in (x.0 (all_back RestsWell passed (p.world ∷ []) rest).0, x.1)) none empty all alive
  worked_done es passed left p (e ∷ l) h o none empty all alive ih = absurd (not_empty e l (sym h ∙ none))

  lines_done : (left : List Line) (es : List Entry) (w : World) (passed : List World) → Lined es w left passed → (from_lines left w passed).owing ≡ [] → (from_lines left w passed).left ≡ []
      → Hyp (from_lines left w passed).passed → is_lost (from_lines left w passed).world ≡ false → Finished es
  lines_done [] es w passed d none empty all alive = (w, (d all).0, alive)
  lines_done (line ∷ left) es w passed d none empty all alive = by (λ v ws j. lines_done left es v ws j) (refused w line) refl none empty all alive
    where
      p : Progress
      p = progress (bound w) w (work_of w line)

      t : Option Refusal → Scene
      t o = unless_refused o (line_worked (λ v ws. from_lines left v ws) passed left p) (scene_of (at_rest w) passed (line ∷ left))

      by : All_done es left → (o : Option Refusal) → refused w line ≡ o → (t o).owing ≡ [] → (t o).left ≡ [] → Hyp (t o).passed → is_lost (t o).world ≡ false → Finished es
      by ih None ok n m all alive = worked_done es passed left p p.owing refl (line_made es w line left passed d ok) n m all alive ih
      by ih (Some why) ok n m all alive = absurd (not_empty line left m)

  onward_done : (es : List Entry) (s : Scene) → s.owing ≡ [] → Kept es s → is_lost (onward s).world ≡ false → (onward s).owing ≡ [] → (onward s).left ≡ [] → Hyp (onward s).passed → Finished es
  onward_done es s none k there owing left all = by (is_lost s.world) refl there owing left all
    where
      p : Progress
      p = progress (bound s.world) s.world s.work

      t : Bool → Scene
      t b = if b then s else line_worked (λ v ws. from_lines s.left v ws) s.passed s.left p

      by : (b : Bool) → is_lost s.world ≡ b → is_lost (t b).world ≡ false → (t b).owing ≡ [] → (t b).left ≡ [] → Hyp (t b).passed → Finished es
      by true lost alive n m rest = absurd (true_false (sym lost ∙ alive))
      by false lost alive n m rest =
          worked_done es s.passed s.left p p.owing refl (onward_made es s none k) n m rest alive (λ v ws j. lines_done s.left es v ws j)

none_owed : (s : Scene) (l : List Entry) → (at_work_owing s l).owing ≡ [] → s.owing ≡ l → s.owing ≡ []
none_owed s [] h e = e
none_owed s (x ∷ l) h e = h

-- THE RUN of a lawful trace of lines, behind which the registry is here
pub made : (lines : List Line) (trace : List Entry) → CanAllStand lines → Lawful lines trace → is_lost (at_work (after_all (begins lines) trace)).world ≡ false → Finished lines trace
made lines trace can law there =
    let s : Scene = after_all (begins lines) trace in
    let first : Kept lines [] (begins lines) = λ all. (record { run = []; at = Some resting; fits = refl; ran = nothing_yet; has_entries = refl; has_lines = refl }, tt, can) in
    let k : Kept lines trace s = along lines trace [] (begins lines) first law.goes in
    let none : s.owing ≡ [] = none_owed s s.owing law.through.nothing_owed refl in
    let is : at_work s ≡ onward s = ap (at_work_owing s) none in
    onward_done lines trace s none k (ap (λ (x : Scene). is_lost x.world) (sym is) ∙ there) (ap (λ (x : Scene). x.owing) (sym is) ∙ law.through.nothing_owed)
    (ap (λ (x : Scene). x.left) (sym is) ∙ law.through.no_line_left) (subst (λ (x : Scene). Hyp x.passed) is law.through.all_rest)
