-- A law of what is due of a kind of entries holds along a run, where it holds of what each line and each turn writes.
use Rattle.std.proofs.Common.{◌≡◌, ℕ, Bool, false, List, [], ◌∷◌, ◌++◌, map, None, Some, refl, sym, ap, ◌∙◌, subst}
use Rattle.std.specs.Prelude.{Option}
use Rattle.std.specs.List.{AllByRecursion}
use Rattle.std.proofs.lemmas.List.{append-nil, append_assoc}
use Rattle.atspi_script_lines.specs.declared.line.Line.{Line}
use Rattle.atspi_script_lines.specs.declared.line.Party.{Party}
use Rattle.atspi_script_lines.specs.declared.line.Party.TheVariants.{Reader}
use Rattle.atspi_message.specs.Envelope.{Envelope}
use Rattle.atspi_trace.specs.Entry.{Entry, sent}
use Rattle.atspi_trace.specs.World.{World}
use Rattle.atspi_trace.specs.Causes.{Cause, Done, does}
use Rattle.atspi_trace.specs.Work.{Work, work_of}
use Rattle.atspi_headline.specs.Words.{Act, begins_line, moves_bytes, takes_end, writes, entries_in, Kind, is_a, Along, next_of, AreDue}
use Rattle.atspi_trace_laws.proofs.OfOrder.Along.{Keeps}
use Rattle.atspi_trace_laws.proofs.OfOwn.Writing.{Lives, lived}
use Rattle.atspi_headline_laws.proofs.Ran.{Ran, nothing_yet, did, began, caused, rested, asked, moves_for, line_moves}
use Rattle.atspi_headline_laws.proofs.Making.{AllMoves, no_entries, entries_more, moves_are, line_moves_are}
use Rattle.atspi_headline_laws.proofs.Keeping.{kept_along, shape_along}
use Rattle.atspi_headline_laws.proofs.Dues.{IsOwed, Still, due_more, still_more, still_along, none_next}
use Rattle.atspi_headline_laws.proofs.Telling.{IsTight, tight_more, tight_moves, tight_along}
use Rattle.atspi_headline_laws.proofs.Joining.{EndsAre, ends_along, moved_ends}
use Rattle.atspi_headline_laws.proofs.Acting.{LineDid, line_did, TurnDid, turn_did, bare_quiet, IsBareLine, bare_line}

-- a run of which we know how it came about, and behind it moves
pub record Origin (run : List Act) (w : World) : Type 0 where
  pub base : List Act
  pub moves : List Act
  pub is : run ≡ base ++ moves
  pub all_moves : AllMoves moves
  pub free : Option ℕ
  pub at : Option Work
  pub ran : Ran base w free at

all_moves_both : (xs ys : List Act) → AllMoves xs → AllMoves ys → AllMoves (xs ++ ys)
all_moves_both [] ys a b = b
all_moves_both (moves_bytes who up count ∷ xs) ys a b = all_moves_both xs ys a b
all_moves_both (takes_end who ∷ xs) ys a b = all_moves_both xs ys a b
all_moves_both (begins_line line ∷ xs) ys a b = absurd a
all_moves_both (writes entry ∷ xs) ys a b = absurd a

-- what is known of a run up to a place: all that is kept along lawful traces holds of its entries and the world
pub record Front (run : List Act) (w : World) (free : Option ℕ) : Type 1 where
  pub kept : (Inv : List Entry → World → Option ℕ → Type 0) → Keeps Inv → Inv (entries_in run) w free
  pub tight : Along IsTight [] run
  pub lives : Lives (entries_in run)
  pub ends : EndsAre run w
  pub origin : Origin run w

pub front_of : (run : List Act) (w : World) (free : Option ℕ) (at : Option Work) → Ran run w free at → Lives (entries_in run) → Front run w free
front_of run w free at r live = record { kept = λ Inv k. kept_along Inv k run w free at r; tight = tight_along run w free at r; lives = live; ends = ends_along run w free at r; origin = record { base = run; moves = []; is = sym (append-nil run); all_moves = tt; free = free; at = at; ran = r } }

-- who lives behind acts lived before them
pub lived_before : (run acts : List Act) → Lives (entries_in (run ++ acts)) → Lives (entries_in run)
lived_before run acts live = lived (entries_in run) (entries_in acts) (subst Lives (entries_more run acts) live)

-- behind moves, where nobody may send a call of its own
pub front_moved : (run acts : List Act) (w : World) (free : Option ℕ) → AllMoves acts → Front run w free → Front (run ++ acts) w None
front_moved run acts w free m f = record {
  kept = λ Inv k. subst (λ l. Inv l w None) (sym (entries_more run acts ∙ ap (λ l. entries_in run ++ l) (no_entries acts m) ∙ append-nil (entries_in run))) (k.passed (entries_in run) w free (f.kept Inv k));
  tight = tight_more run acts f.tight (tight_moves run acts m);
  lives = subst Lives (sym (entries_more run acts ∙ ap (λ l. entries_in run ++ l) (no_entries acts m) ∙ append-nil (entries_in run))) f.lives;
  ends = moved_ends run acts w m f.ends;
  origin = record {
    base = f.origin.base;
    moves = f.origin.moves ++ acts;
    is = ap (λ l. l ++ acts) f.origin.is ∙ append_assoc f.origin.base f.origin.moves acts;
    all_moves = all_moves_both f.origin.moves acts f.origin.all_moves m;
    free = f.origin.free;
    at = f.origin.at;
    ran = f.origin.ran;
  };
}

pub front_here : (run : List Act) (w : World) (free : Option ℕ) → Front run w free → Front run w None
front_here run w free f = record { kept = λ Inv k. k.passed (entries_in run) w free (f.kept Inv k); tight = f.tight; lives = f.lives; ends = f.ends; origin = f.origin }

-- moves are still
pub moves_still : (kind : Kind) (due : List Act → Act → List Entry) → ((who : Party) (up : Bool) (count : ℕ) → Still kind due (moves_bytes who up count)) → ((who : Party) → Still kind due (takes_end who))
    → (acts : List Act) → AllMoves acts → AllByRecursion (Still kind due) acts
moves_still kind due a b [] m = tt
moves_still kind due a b (moves_bytes who up count ∷ acts) m = (a who up count, moves_still kind due a b acts m)
moves_still kind due a b (takes_end who ∷ acts) m = (b who, moves_still kind due a b acts m)
moves_still kind due a b (begins_line line ∷ acts) m = absurd m
moves_still kind due a b (writes entry ∷ acts) m = absurd m

-- OF A KIND
pub record Written (kind : Kind) (due : List Act → Act → List Entry) (front : List Act) (es : List Entry) : Type 0 where
  pub first : next_of (is_a kind) (map writes es) ≡ []
  pub along : Along (IsOwed kind due) front (map writes es)

pub still_written : (kind : Kind) (due : List Act → Act → List Entry) (front : List Act) (es : List Entry) → AllByRecursion (λ entry. Still kind due (writes entry)) es → Written kind due front es
still_written kind due front es s =
    let all : AllByRecursion (Still kind due) (map writes es) = by es s in
    record { first = none_next kind due (map writes es) all; along = still_along kind due front (map writes es) all }
  where
    by : (es : List Entry) → AllByRecursion (λ entry. Still kind due (writes entry)) es → AllByRecursion (Still kind due) (map writes es)
    by [] s = tt
    by (e ∷ es) s = (s.0, by es s.1)

pub record IsLaw (kind : Kind) (due : List Act → Act → List Entry) : Type 1 where
  pub line : (run : List Act) (w : World) (line : Line) (d : Done) → Front run w None → LineDid w line d → Along (IsOwed kind due) run (begins_line line ∷ map writes d.entries)
  pub turn : (front : List Act) (w : World) (c : Cause) (d : Done) → Front front w None → TurnDid w c d → Written kind due front d.entries
  pub bare : (line : Line) → IsBareLine line → Still kind due (begins_line line)
  pub moving : (who : Party) (up : Bool) (count : ℕ) → Still kind due (moves_bytes who up count)
  pub ending : (who : Party) → Still kind due (takes_end who)
  pub asks : (r : ℕ) (m : Envelope) → Still kind due (writes (sent (Reader r) m))

module _ (kind : Kind) (due : List Act → Act → List Entry) (law : IsLaw kind due) where
  turn_more : (run moves : List Act) (es : List Entry) → AllMoves moves → AreDue false kind due run → Written kind due (run ++ moves) es → AreDue false kind due (run ++ (moves ++ map writes es))
  turn_more run moves es m old new =
      let still : AllByRecursion (Still kind due) moves = moves_still kind due law.moving law.ending moves m in
      let first : AreDue false kind due (run ++ moves) = still_more kind due run moves still old in
      subst (AreDue false kind due) (append_assoc run moves (map writes es)) (due_more kind due (run ++ moves) (map writes es) new.first first new.along)

  pub law_along : (run : List Act) (w : World) (free : Option ℕ) (at : Option Work) → Ran run w free at → Lives (entries_in run) → AreDue false kind due run
  law_along _ _ _ _ nothing_yet live = tt
  law_along _ _ _ _ (did run w line c r ok can is a) live =
      let before : Lives (entries_in run) = lived_before run (begins_line line ∷ map writes (does w c).entries) live in
      due_more kind due run (begins_line line ∷ map writes (does w c).entries) refl (law_along run w None None r before)
      (law.line run w line (does w c) (front_of run w None None r before) (line_did w line c (shape_along run w None None r) ok can a is))
  law_along _ _ _ _ (began run w line r ok can b) live =
      let before : Lives (entries_in run) = lived_before run (begins_line line ∷ line_moves w (work_of w line)) live in
      still_more kind due run (begins_line line ∷ line_moves w (work_of w line))
      (law.bare line (bare_line w line ok b), moves_still kind due law.moving law.ending (line_moves w (work_of w line)) (line_moves_are w (work_of w line))) (law_along run w None None r before)
  law_along _ _ _ _ (caused run w free work left c r is b a) live =
      let before : Lives (entries_in run) = lived_before run (moves_for w work c ++ map writes (does w c).entries) live in
      turn_more run (moves_for w work c) (does w c).entries (moves_are w work c) (law_along run w free (Some work) r before)
      (law.turn (run ++ moves_for w work c) w c (does w c) (front_moved run (moves_for w work c) w free (moves_are w work c) (front_of run w free (Some work) r before))
      (turn_did w c (shape_along run w free (Some work) r) (bare_quiet w work left c b is) a))
  law_along _ _ _ _ (rested run w v free work r is m well) live = law_along run w free (Some work) r live
  law_along _ _ _ _ (asked run w conn q m question work r a) live =
      still_more kind due run (writes (sent (Reader q) m) ∷ []) (law.asks q m, tt) (law_along run w (Some conn) work r (lived_before run (writes (sent (Reader q) m) ∷ []) live))
