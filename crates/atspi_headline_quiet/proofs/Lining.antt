-- A LAW OF THE ACTS OF EACH LINE holds along a run, where it holds at the line's end; what the acts of a line at work are is told by a stage.
use Rattle.std.proofs.Common.{◌≡◌, ◌⊎◌, inl, inr, ℕ, List, [], ◌∷◌, ◌++◌, map, Option, None, Some, refl, sym, ap, ◌∙◌, subst}
use Rattle.std.specs.List.{AllByRecursion}
use Rattle.std.proofs.lemmas.List.{append_assoc}
use Rattle.atspi_script_lines.specs.declared.line.Line.{Line}
use Rattle.atspi_script_lines.specs.declared.line.Party.TheVariants.{Reader}
use Rattle.atspi_message.specs.Envelope.{Envelope}
use Rattle.atspi_protocol.specs.declared.following.question.Question.{Question}
use Rattle.atspi_trace.specs.Entry.{Entry, sent}
use Rattle.atspi_trace.specs.World.{World}
use Rattle.atspi_trace.specs.Causes.{Cause, does, at_end}
use Rattle.atspi_trace.specs.Work.{refused, Work, resting, work_of, cause, rests, next_of}
use Rattle.atspi_trace.specs.Due.{freed, asks_at, RestsWell}
use Rattle.atspi_headline.specs.Words.{Act, begins_line, moves_bytes, takes_end, writes, entries_in, Along, segment}
use Rattle.atspi_trace_laws.proofs.OfOrder.Parties.{no_none, all_append}
use Rattle.atspi_trace_laws.proofs.OfOrder.Allowed.{IsBare}
use Rattle.atspi_trace_laws.proofs.OfOwn.Writing.{Lives}
use Rattle.atspi_headline_laws.proofs.Ran.{Ran, nothing_yet, did, began, caused, rested, asked, moves_for, line_moves}
use Rattle.atspi_headline_laws.proofs.Making.{AllMoves, moves_are, line_moves_are}
use Rattle.atspi_headline_laws.proofs.Keeping.{shape_along}
use Rattle.atspi_headline_laws.proofs.Dues.{along_more, along_map, along_of}
use Rattle.atspi_headline_laws.proofs.Acting.{LineDid, line_did, TurnDid, turn_did, bare_quiet, IsBareLine, bare_line}
use Rattle.atspi_headline_laws.proofs.Growing.{lived_before}

-- WHAT STANDS BEHIND A LINE, up to the next
abbrev pub BehindLine : (List Act → Line → List Act → Type 0) → List Act → Act → List Act → Type 0
BehindLine Law before (begins_line line) behind = Law (before ++ begins_line line ∷ []) line (segment behind)
BehindLine Law before act behind = Unit {0}

abbrev pub NoLine : Act → Type 0
NoLine (begins_line line) = ⊥
NoLine act = Unit {0}

all_segment : (acts : List Act) → AllByRecursion NoLine acts → segment acts ≡ acts
all_segment [] n = refl
all_segment (begins_line line ∷ acts) n = absurd n.0
all_segment (moves_bytes who up count ∷ acts) n = ap (λ l. moves_bytes who up count ∷ l) (all_segment acts n.1)
all_segment (takes_end who ∷ acts) n = ap (λ l. takes_end who ∷ l) (all_segment acts n.1)
all_segment (writes entry ∷ acts) n = ap (λ l. writes entry ∷ l) (all_segment acts n.1)

segment_line : (xs ys : List Act) (line : Line) → segment (xs ++ begins_line line ∷ ys) ≡ segment xs
segment_line [] ys line = refl
segment_line (begins_line other ∷ xs) ys line = refl
segment_line (moves_bytes who up count ∷ xs) ys line = ap (λ l. moves_bytes who up count ∷ l) (segment_line xs ys line)
segment_line (takes_end who ∷ xs) ys line = ap (λ l. takes_end who ∷ l) (segment_line xs ys line)
segment_line (writes entry ∷ xs) ys line = ap (λ l. writes entry ∷ l) (segment_line xs ys line)

line_behind : (Law : List Act → Line → List Act → Type 0) (line : Line) (ys before : List Act) (act : Act) (behind : List Act) → BehindLine Law before act behind → BehindLine Law before act (behind ++ begins_line line ∷ ys)
line_behind Law line ys before (begins_line other) behind h = subst (Law (before ++ begins_line other ∷ []) other) (sym (segment_line behind ys line)) h
line_behind Law line ys before (moves_bytes who up count) behind h = tt
line_behind Law line ys before (takes_end who) behind h = tt
line_behind Law line ys before (writes entry) behind h = tt

of_no_line : (Law : List Act → Line → List Act → Type 0) (before : List Act) (act : Act) (behind : List Act) → NoLine act → BehindLine Law before act behind
of_no_line Law before (begins_line line) behind n = absurd n
of_no_line Law before (moves_bytes who up count) behind n = tt
of_no_line Law before (takes_end who) behind n = tt
of_no_line Law before (writes entry) behind n = tt

line_more : (Law : List Act → Line → List Act → Type 0) (run : List Act) (line : Line) (acts : List Act) → Along (BehindLine Law) [] run → AllByRecursion NoLine acts → Law (run ++ begins_line line ∷ []) line acts
    → Along (BehindLine Law) [] (run ++ begins_line line ∷ acts)
line_more Law run line acts old none new =
    along_more (BehindLine Law) [] run (begins_line line ∷ acts)
    (along_map (BehindLine Law) (λ before act behind. BehindLine Law before act (behind ++ begins_line line ∷ acts)) [] run (line_behind Law line acts) old) (
      subst (Law (run ++ begins_line line ∷ []) line) (sym (all_segment acts none)) new,
      along_of NoLine (BehindLine Law) (run ++ begins_line line ∷ []) acts (λ early act behind n rest. of_no_line Law early act behind n) none,
    )

-- another law of each line
pub lines_map : (Law : List Act → Line → List Act → Type 0) (Other : List Act → Act → List Act → Type 0) (run : List Act)
    → ((before : List Act) (line : Line) (behind : List Act) → Law (before ++ begins_line line ∷ []) line (segment behind) → Other before (begins_line line) behind)
    → ((before : List Act) (act : Act) (behind : List Act) → NoLine act → Other before act behind) → Along (BehindLine Law) [] run → Along Other [] run
lines_map Law Other run f g a = along_map (BehindLine Law) Other [] run by a
  where
    by : (before : List Act) (act : Act) (behind : List Act) → BehindLine Law before act behind → Other before act behind
    by before (begins_line line) behind h = f before line behind h
    by before (moves_bytes who up count) behind h = g before (moves_bytes who up count) behind tt
    by before (takes_end who) behind h = g before (takes_end who) behind tt
    by before (writes entry) behind h = g before (writes entry) behind tt

-- ACTS THAT BEGIN NO LINE
pub moves_no_line : (acts : List Act) → AllMoves acts → AllByRecursion NoLine acts
moves_no_line [] m = tt
moves_no_line (moves_bytes who up count ∷ acts) m = (tt, moves_no_line acts m)
moves_no_line (takes_end who ∷ acts) m = (tt, moves_no_line acts m)
moves_no_line (begins_line line ∷ acts) m = absurd m
moves_no_line (writes entry ∷ acts) m = absurd m

pub written_no_line : (es : List Entry) → AllByRecursion NoLine (map writes es)
written_no_line [] = tt
written_no_line (e ∷ es) = (tt, written_no_line es)

-- A STAGE: what the acts of a line are so far
pub record IsStage (Law : List Act → Line → List Act → Type 0) (Stage : List Act → Line → List Act → World → Option ℕ → Work → Type 0) : Type 1 where
  pub did_ : (run : List Act) (w : World) (line : Line) (c : Cause) → Ran run w None None → LineDid w line (does w c) → Stage (run ++ begins_line line ∷ []) line (map writes (does w c).entries) (does w c).world (freed c) resting
  pub began_ : (run : List Act) (w : World) (line : Line) → Ran run w None None → Lives (entries_in run) → refused w line ≡ None → IsBareLine line
      → Stage (run ++ begins_line line ∷ []) line (line_moves w (work_of w line)) w None (work_of w line)
  pub caused_ : (before : List Act) (line : Line) (acts : List Act) (w : World) (free : Option ℕ) (work left : Work) (c : Cause) → Stage before line acts w free work → Ran (before ++ acts) w free (Some work)
      → Lives (entries_in (before ++ acts)) → next_of w work ≡ cause c w left → IsBare work → TurnDid w c (does w c)
      → Stage before line (acts ++ (moves_for w work c ++ map writes (does w c).entries)) (does w c).world (freed c) left
  pub asked_ : (before : List Act) (line : Line) (acts : List Act) (w : World) (conn r : ℕ) (m : Envelope) (question : Question) (work : Work) → Stage before line acts w (Some conn) work
      → Stage before line (acts ++ writes (sent (Reader r) m) ∷ []) (at_end w conn (asks_at m question)) None work
  pub rested_ : (before : List Act) (line : Line) (acts : List Act) (w v : World) (free : Option ℕ) (work : Work) → Stage before line acts w free work → Ran (before ++ acts) v None None
      → Lives (entries_in (before ++ acts)) → next_of w work ≡ rests v → RestsWell v → Law before line acts

pub rests_no : (w v : World) (c : Cause) (left : Work) → rests w ≡ cause c v left → ⊥
rests_no w v c left h = cc

module _ (Law : List Act → Line → List Act → Type 0) (Stage : List Act → Line → List Act → World → Option ℕ → Work → Type 0) (s : IsStage Law Stage) where
  record Opened (run : List Act) (w : World) (free : Option ℕ) (work : Work) : Type 0 where
    pub base : List Act
    pub line : Line
    pub acts : List Act
    pub is : run ≡ (base ++ begins_line line ∷ []) ++ acts
    pub so_far : Along (BehindLine Law) [] base
    pub none : AllByRecursion NoLine acts
    pub stage : Stage (base ++ begins_line line ∷ []) line acts w free work

  record Fresh (run : List Act) (free : Option ℕ) (work : Work) : Type 0 where
    pub empty : run ≡ []
    pub idle : work ≡ resting
    pub nobody : free ≡ None

  record Between (run : List Act) (free : Option ℕ) : Type 0 where
    pub nobody : free ≡ None
    pub all : Along (BehindLine Law) [] run

  abbrev State : List Act → World → Option ℕ → Option Work → Type 0
  State run w free None = Between run free
  State run w free (Some work) = Opened run w free work ⊎ Fresh run free work

  longer : (run before acts more : List Act) → run ≡ before ++ acts → run ++ more ≡ before ++ (acts ++ more)
  longer run before acts more h = ap (λ l. l ++ more) h ∙ append_assoc before acts more

  cause_more : (run : List Act) (w : World) (free : Option ℕ) (work left : Work) (c : Cause) → Opened run w free work → Ran run w free (Some work) → Lives (entries_in run) → next_of w work ≡ cause c w left → IsBare work → TurnDid w c (does w c)
      → Opened (run ++ (moves_for w work c ++ map writes (does w c).entries)) (does w c).world (freed c) left
  cause_more run w free work left c o r live is bare t =
      let more : List Act = moves_for w work c ++ map writes (does w c).entries in
      record {
        base = o.base;
        line = o.line;
        acts = o.acts ++ more;
        is = longer run (o.base ++ begins_line o.line ∷ []) o.acts more o.is;
        so_far = o.so_far;
        none = all_append NoLine o.acts more o.none
            (all_append NoLine (moves_for w work c) (map writes (does w c).entries) (moves_no_line (moves_for w work c) (moves_are w work c)) (written_no_line (does w c).entries));
        stage = s.caused_ (o.base ++ begins_line o.line ∷ []) o.line o.acts w free work left c o.stage (subst (λ l. Ran l w free (Some work)) o.is r) (subst (λ l. Lives (entries_in l)) o.is live) is bare t;
      }

  ask_more : (run : List Act) (w : World) (conn r : ℕ) (m : Envelope) (question : Question) (work : Work) → Opened run w (Some conn) work → Opened (run ++ writes (sent (Reader r) m) ∷ []) (at_end w conn (asks_at m question)) None work
  ask_more run w conn r m question work o = record {
    base = o.base;
    line = o.line;
    acts = o.acts ++ writes (sent (Reader r) m) ∷ [];
    is = longer run (o.base ++ begins_line o.line ∷ []) o.acts (writes (sent (Reader r) m) ∷ []) o.is;
    so_far = o.so_far;
    none = all_append NoLine o.acts (writes (sent (Reader r) m) ∷ []) o.none (tt, tt);
    stage = s.asked_ (o.base ++ begins_line o.line ∷ []) o.line o.acts w conn r m question work o.stage;
  }

  rest_more : (run : List Act) (w v : World) (free : Option ℕ) (work : Work) → Opened run w free work → Ran run v None None → Lives (entries_in run) → next_of w work ≡ rests v → RestsWell v → Along (BehindLine Law) [] run
  rest_more run w v free work o r live is well =
      let whole : run ≡ o.base ++ begins_line o.line ∷ o.acts = o.is ∙ append_assoc o.base (begins_line o.line ∷ []) o.acts in
      subst (Along (BehindLine Law) []) (sym whole)
      (line_more Law o.base o.line o.acts o.so_far o.none
      (s.rested_ (o.base ++ begins_line o.line ∷ []) o.line o.acts w v free work o.stage (subst (λ l. Ran l v None None) o.is r) (subst (λ l. Lives (entries_in l)) o.is live) is well))

  state_along : (run : List Act) (w : World) (free : Option ℕ) (at : Option Work) → Ran run w free at → Lives (entries_in run) → State run w free at
  state_along _ _ _ _ nothing_yet live = inr (record { empty = refl; idle = refl; nobody = refl })
  state_along _ _ _ _ (did run w line c r ok can is a) live =
      let old : Between run None = state_along run w None None r (lived_before run (begins_line line ∷ map writes (does w c).entries) live) in
      inl (record {
        base = run;
        line = line;
        acts = map writes (does w c).entries;
        is = sym (append_assoc run (begins_line line ∷ []) (map writes (does w c).entries));
        so_far = old.all;
        none = written_no_line (does w c).entries;
        stage = s.did_ run w line c r (line_did w line c (shape_along run w None None r) ok can a is);
      })
  state_along _ _ _ _ (began run w line r ok can b) live =
      let before : Lives (entries_in run) = lived_before run (begins_line line ∷ line_moves w (work_of w line)) live in
      let old : Between run None = state_along run w None None r before in
      inl (record {
        base = run;
        line = line;
        acts = line_moves w (work_of w line);
        is = sym (append_assoc run (begins_line line ∷ []) (line_moves w (work_of w line)));
        so_far = old.all;
        none = moves_no_line (line_moves w (work_of w line)) (line_moves_are w (work_of w line));
        stage = s.began_ run w line r before ok (bare_line w line ok b);
      })
  state_along _ _ _ _ (caused run w free work left c r is b a) live =
      let before : Lives (entries_in run) = lived_before run (moves_for w work c ++ map writes (does w c).entries) live in
      by (state_along run w free (Some work) r before)
    where
      by : Opened run w free work ⊎ Fresh run free work → Opened (run ++ (moves_for w work c ++ map writes (does w c).entries)) (does w c).world (freed c) left ⊎ Fresh (run ++ (moves_for w work c ++ map writes (does w c).entries)) (freed c) left
      by (inl o) =
          inl (cause_more run w free work left c o r (lived_before run (moves_for w work c ++ map writes (does w c).entries) live) is b
          (turn_did w c (shape_along run w free (Some work) r) (bare_quiet w work left c b is) a))
      by (inr f) = absurd (rests_no w w c left (sym (ap (next_of w) f.idle) ∙ is))
  state_along _ _ _ _ (rested run w v free work r is m well) live = record { nobody = refl; all = by (state_along run w free (Some work) r live) }
    where
      by : Opened run w free work ⊎ Fresh run free work → Along (BehindLine Law) [] run
      by (inl o) = rest_more run w v free work o (rested run w v free work r is m well) live is well
      by (inr f) = subst (Along (BehindLine Law) []) (sym f.empty) tt
  state_along _ _ _ _ (asked run w conn q m question work r a) live = by work (state_along run w (Some conn) work r (lived_before run (writes (sent (Reader q) m) ∷ []) live))
    where
      by : (x : Option Work) → State run w (Some conn) x → State (run ++ writes (sent (Reader q) m) ∷ []) (at_end w conn (asks_at m question)) None x
      by None st = absurd (no_none conn (sym st.nobody))
      by (Some work) (inl o) = inl (ask_more run w conn q m question work o)
      by (Some work) (inr f) = absurd (no_none conn (sym f.nobody))

  pub lines_along : (run : List Act) (w : World) → Ran run w None None → Lives (entries_in run) → Along (BehindLine Law) [] run
  lines_along run w r live = (state_along run w None None r live).all
