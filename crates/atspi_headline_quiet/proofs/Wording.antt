-- WHERE `busy` AND `quiet` STAND, and how many turns a line makes: what the acts of a line are, by what is left of it.
use Rattle.std.proofs.Common.{◌≡◌, ℕ, zero, suc, ◌+◌, ◌≤◌, Bool, true, false, List, [], ◌∷◌, ◌++◌, length, map, Option, None, Some, refl, sym, ap, ◌∙◌, subst, arith, is_some}
use Rattle.std.specs.Prelude.{filter, not, nat_le, ◌-◌, if◌then◌else◌}
use Rattle.std.specs.List.{AllByRecursion}
use Rattle.std.proofs.lemmas.Bool.{le-leb}
use Rattle.std.proofs.lemmas.List.{append-nil}
use Rattle.atspi_script_lines.specs.declared.line.Line.{Line}
use Rattle.atspi_script_lines.specs.declared.line.Line.TheVariants.{Blank, Quota, App as App_line, Reader as Reader_line, Edit as Edit_line, Call, Swap, Exit, Leave, Bytes, Turns, Drain, Show}
use Rattle.atspi_script_lines.specs.declared.line.Party.{Party}
use Rattle.atspi_script_lines.specs.declared.line.Party.TheVariants.{Bus as The_bus, Registry, App, Reader}
use Rattle.atspi_message.specs.Envelope.{Envelope}
use Rattle.atspi_protocol.specs.registering.Steps.{registry_takes}
use Rattle.atspi_protocol.specs.exporting.Taking.{app_takes}
use Rattle.atspi_trace.specs.Entry.{Entry, sent, busy, quiet}
use Rattle.atspi_trace.specs.World.{Standing, here, stopped, away, Said, Letter, End, World}
use Rattle.atspi_trace.specs.Ends.{end_at, conn_of, number_of}
use Rattle.atspi_trace.specs.Carrying as carrying
use Rattle.atspi_trace.specs.Causes as causes
use Rattle.atspi_trace.specs.Causes.{Cause, tells_busy, tells_quiet, Done, missing, does}
use Rattle.atspi_trace.specs.Work as works
use Rattle.atspi_trace.specs.Work.{Work, resting, doing, moving_up, moving_down, turning, draining, with_conn, Next, cause, rests, next_of, next_turn, moved_up, moved_down, next_up, next_down, of_end, next_of_turns, next_of_drain}
use Rattle.atspi_trace.specs.Due.{freed, RestsWell}
use Rattle.atspi_headline.specs.Words.{Act, begins_line, moves_bytes, takes_end, writes, entries_in, is_move, wording, is_a, writes_a}
use Rattle.atspi_headline.specs.Headline.{word_due, TurnsAreMade}
use Rattle.atspi_trace_laws.proofs.OfOrder.Parties.{no_none, false_true, all_append}
use Rattle.atspi_trace_laws.proofs.OfOrder.Allowed.{IsBare}
use Rattle.atspi_trace_laws.proofs.OfOrder.Effects.{received}
use Rattle.atspi_trace_laws.proofs.OfHeard.Quiet.{heard_all}
use Rattle.atspi_trace_laws.proofs.OfOwn.Writing.{Lives}
use Rattle.atspi_trace_played.proofs.BuildingFading.{IsTurn}
use Rattle.atspi_trace_played.proofs.BuildingFuel.{is_turn}
use Rattle.atspi_headline_laws.proofs.Ran.{Ran, turn_move, moves_for, line_moves}
use Rattle.atspi_headline_laws.proofs.Making.{AllMoves, moves_are, line_moves_are}
use Rattle.atspi_headline_laws.proofs.Acting.{LineDid, renewed, app_began, reader_began, edited_app, called_app, swapped, app_stopped, reader_stopped, showed, TurnDid, told_busy, told_quiet, bus_took, bus_ended, registry_took, app_took, reader_took, IsBareLine}
use Rattle.atspi_headline_laws.proofs.Sorting.{AppSorts, BusSorts, LineSorts, sent_all, app_all, of_bus_all, line_all}
use Rattle.atspi_headline_quiet.proofs.Lining.{IsStage, rests_no}

abbrev pub waits : World → Bool
waits w = is_some (next_turn w)

-- ACTS WITHOUT A WORD, and how many turns they make
abbrev pub NoWord : Act → Type 0
NoWord act = writes_a wording act ≡ false

abbrev pub made : List Act → ℕ
made acts = length (filter is_move acts)

pub no_words : (acts : List Act) → AllMoves acts → AllByRecursion NoWord acts
no_words [] m = tt
no_words (moves_bytes who up count ∷ acts) m = (refl, no_words acts m)
no_words (takes_end who ∷ acts) m = (refl, no_words acts m)
no_words (begins_line line ∷ acts) m = absurd m
no_words (writes entry ∷ acts) m = absurd m

abbrev Wordless : Entry → Type 0
Wordless entry = is_a wording entry ≡ false

no_words_written : (es : List Entry) → AllByRecursion Wordless es → AllByRecursion NoWord (map writes es)
no_words_written [] a = tt
no_words_written (e ∷ es) a = (a.0, no_words_written es a.1)

pub made_more : (xs ys : List Act) → made (xs ++ ys) ≡ made xs + made ys
made_more [] ys = omega arith
made_more (begins_line line ∷ xs) ys = made_more xs ys
made_more (moves_bytes who up count ∷ xs) ys = let ih : made (xs ++ ys) ≡ made xs + made ys = made_more xs ys in omega (arith, ih)
made_more (takes_end who ∷ xs) ys = let ih : made (xs ++ ys) ≡ made xs + made ys = made_more xs ys in omega (arith, ih)
made_more (writes entry ∷ xs) ys = made_more xs ys

pub made_written : (es : List Entry) → made (map writes es) ≡ 0
made_written [] = refl
made_written (e ∷ es) = made_written es

pub one_turn : (w : World) (c : Cause) → IsTurn c → made (turn_move w c) ≡ 1
one_turn w (causes.routes conn) t = refl
one_turn w (causes.unjoins conn) t = refl
one_turn w (causes.gets conn) t = refl
one_turn w c t = absurd t

-- WHAT LINES AND TURNS WRITE has no word but where one is told
sent_no : (who : Party) (e : Envelope) → Wordless (sent who e)
sent_no The_bus e = refl
sent_no Registry e = refl
sent_no (App a) e = refl
sent_no (Reader r) e = refl

apps_no : AppSorts Wordless
apps_no = record { steps_ = λ app step. refl; sends_ = λ app e. refl; hears_ = λ app listener pattern. refl; deaf_ = λ app listener pattern. refl }

bus_no : BusSorts Wordless
bus_no = record { says_ = λ e. refl; drops_ = λ who queued len. refl }

lines_no : LineSorts Wordless
lines_no = record { app = apps_no; starts_ = λ who name. refl; calls_ = sent_no; exits_ = λ who. refl; shows_ = λ reader app rows. refl }

turn_no : (w : World) (c : Cause) (d : Done) → IsTurn c → TurnDid w c d → AllByRecursion Wordless d.entries
turn_no w _ _ i (told_busy turns) = absurd i
turn_no w _ _ i (told_quiet none) = absurd i
turn_no w _ _ i (bus_took d b) =
    let c = carrying.takes (record { bus = w.bus; ends = w.ends }) b.conn b.e.who b.said in
    subst (λ (x : Done). AllByRecursion Wordless x.entries) (sym b.is) (refl, of_bus_all Wordless bus_no c.ends c.bus.own c.bus.closings)
turn_no w _ _ i (bus_ended d b) =
    let c = carrying.takes_end (record { bus = w.bus; ends = w.ends }) b.conn in
    subst (λ (x : Done). AllByRecursion Wordless x.entries) (sym b.is) (of_bus_all Wordless bus_no c.ends c.bus.own c.bus.closings)
turn_no w _ _ i (registry_took d b) =
    subst (λ (x : Done). AllByRecursion Wordless x.entries) (sym b.is) (refl, sent_all Wordless b.e.who (λ e. sent_no b.e.who e) (registry_takes b.before b.letter.said.message).sent)
turn_no w _ _ i (app_took d b) =
    subst (λ (x : Done). AllByRecursion Wordless x.entries) (sym b.is) (refl, app_all Wordless apps_no _ (app_takes b.before b.letter.said.message).out)
turn_no w _ _ i (reader_took d b) =
    subst (λ (x : Done). AllByRecursion Wordless x.entries) (sym b.is)
    (refl, heard_all Wordless (λ r app line. refl) (λ r app. refl) (number_of b.e.who) b.hearer (received w b.conn b.e b.letter).ends b.letter)

-- LINES AND WORKS that make no turns
abbrev pub IsOther : Line → Type 0
IsOther (Turns count) = ⊥
IsOther Drain = ⊥
IsOther line = Unit {0}

abbrev pub OtherWork : Work → Type 0
OtherWork (turning count left) = ⊥
OtherWork draining = ⊥
OtherWork work = Unit {0}

pub did_other : (w : World) (line : Line) (d : Done) → LineDid w line d → IsOther line
did_other w _ _ (renewed quota few) = tt
did_other w _ _ (app_began name short few) = tt
did_other w _ _ (reader_began few) = tt
did_other w _ _ (edited_app app conn edit e before after h who role done_ can) = tt
did_other w _ _ (called_app reader app node conn deed e hearer h who role) = tt
did_other w _ _ (swapped app) = tt
did_other w _ _ (app_stopped app d b who) = tt
did_other w _ _ (reader_stopped reader d b who) = tt
did_other w _ _ (showed reader app conn e hearer there who role) = tt

bytes_other : (o : Option ℕ) (up : Bool) (count : ℕ) → OtherWork (with_conn o (works.moving up count))
bytes_other None up count = tt
bytes_other (Some conn) true count = tt
bytes_other (Some conn) false count = tt

abbrev OtherNext : Next → Type 0
OtherNext (cause c v left) = IsTurn c × OtherWork left
OtherNext (rests v) = Unit {0}

up_other : (w : World) (conn count : ℕ) (st : Standing) (m : ℕ) (link : List Said) → OtherNext (next_up w conn count st m link)
up_other w conn count here m (said ∷ rest) = by (nat_le (missing said.message m) count)
  where
    by : (b : Bool) → OtherNext (if b then cause (causes.routes conn) w (moving_up conn (count - missing said.message m)) else rests (moved_up w conn count))
    by true = (tt, tt)
    by false = tt
up_other w conn count here m [] = tt
up_other w conn zero stopped m link = tt
up_other w conn (suc count) stopped m link = (tt, tt)
up_other w conn count away m link = tt

down_other : (w : World) (conn count : ℕ) (st : Standing) (m : ℕ) (link : List Letter) → OtherNext (next_down w conn count st m link)
down_other w conn count here m (letter ∷ rest) = by (nat_le (missing letter.said.message m) count)
  where
    by : (b : Bool) → OtherNext (if b then cause (causes.gets conn) w (moving_down conn (count - missing letter.said.message m)) else rests (moved_down w conn count))
    by true = (tt, tt)
    by false = tt
down_other w conn count here m [] = tt
down_other w conn count stopped m link = tt
down_other w conn count away m link = tt

at_end_other : (w : World) (o : Option End) (next : End → Next) → ((e : End) → OtherNext (next e)) → OtherNext (of_end w o next)
at_end_other w None next f = tt
at_end_other w (Some e) next f = f e

next_other : (w : World) (work : Work) → IsBare work → OtherWork work → OtherNext (next_of w work)
next_other w resting b o = tt
next_other w (doing c) b o = absurd b
next_other w (moving_up conn count) b o = at_end_other w (end_at w.ends conn) (λ e. next_up w conn count e.standing e.up_moved e.up) (λ e. up_other w conn count e.standing e.up_moved e.up)
next_other w (moving_down conn count) b o = at_end_other w (end_at w.ends conn) (λ e. next_down w conn count e.standing e.down_moved e.down) (λ e. down_other w conn count e.standing e.down_moved e.down)
next_other w (turning count left) b o = absurd o
next_other w draining b o = absurd o

pub other_next : (w : World) (work left : Work) (c : Cause) → IsBare work → OtherWork work → next_of w work ≡ cause c w left → IsTurn c × OtherWork left
other_next w work left c b o is = subst OtherNext is (next_other w work b o)

-- WHAT IS NEXT OF TURNS
abbrev cause_in : Next → Cause → Cause
cause_in (cause c v left) d = c
cause_in (rests v) d = d

abbrev left_in : Next → Work → Work
left_in (cause c v left) x = left
left_in (rests v) x = x

abbrev world_in : Next → World → World
world_in (cause c v left) x = x
world_in (rests v) x = v

pub data TurnsOn (w : World) (count : ℕ) : ℕ → Cause → Work → Type 0 where
  turned : (c : Cause) (left : ℕ) → next_turn w ≡ Some c → TurnsOn w count (suc left) c (turning count left)
  told : waits w ≡ true → TurnsOn w count zero (tells_busy count) resting

pub turns_on : (w : World) (count n : ℕ) (c : Cause) (left : Work) → next_of w (turning count n) ≡ cause c w left → TurnsOn w count n c left
turns_on w count n c left is = by (next_turn w) refl n is
  where
    by : (o : Option Cause) → next_turn w ≡ o → (n : ℕ) → next_of_turns w count n o ≡ cause c w left → TurnsOn w count n c left
    by None h n g = absurd (rests_no w w c left g)
    by (Some x) h zero g =
        subst (λ l. TurnsOn w count zero c l) (ap (λ y. left_in y resting) g) (subst (λ d. TurnsOn w count zero d resting) (ap (λ y. cause_in y c) g) (told (ap is_some h)))
    by (Some x) h (suc m) g =
        subst (λ l. TurnsOn w count (suc m) c l) (ap (λ y. left_in y resting) g) (subst (λ d. TurnsOn w count (suc m) d (turning count m)) (ap (λ y. cause_in y c) g) (turned x m h))

pub data DrainsOn (w : World) : Cause → Work → Type 0 where
  drained : (c : Cause) → next_turn w ≡ Some c → DrainsOn w c draining
  ended : waits w ≡ false → DrainsOn w tells_quiet resting

pub drains_on : (w : World) (c : Cause) (left : Work) → next_of w draining ≡ cause c w left → DrainsOn w c left
drains_on w c left is = by (next_turn w) refl is
  where
    by : (o : Option Cause) → next_turn w ≡ o → next_of_drain w o ≡ cause c w left → DrainsOn w c left
    by None h g =
        subst (λ l. DrainsOn w c l) (ap (λ y. left_in y resting) g) (subst (λ d. DrainsOn w d resting) (ap (λ y. cause_in y c) g) (ended (ap is_some h)))
    by (Some x) h g =
        subst (λ l. DrainsOn w c l) (ap (λ y. left_in y resting) g) (subst (λ d. DrainsOn w d draining) (ap (λ y. cause_in y c) g) (drained x h))

-- where a line comes to rest
pub rest_same : (w v : World) → next_of w resting ≡ rests v → w ≡ v
rest_same w v is = ap (λ y. world_in y w) is

pub no_rest : (c : Cause) (w v : World) (left : Work) → cause c w left ≡ rests v → ⊥
no_rest c w v left h = cc

pub turns_rest : (w v : World) (count n : ℕ) → next_of w (turning count n) ≡ rests v → (w ≡ v) × (waits w ≡ false)
turns_rest w v count n is = by (next_turn w) refl n is
  where
    by : (o : Option Cause) → next_turn w ≡ o → (n : ℕ) → next_of_turns w count n o ≡ rests v → (w ≡ v) × (waits w ≡ false)
    by None h n g = (ap (λ y. world_in y w) g, ap is_some h)
    by (Some x) h zero g = absurd (no_rest (tells_busy count) w v resting g)
    by (Some x) h (suc m) g = absurd (no_rest x w v (turning count m) g)

pub drain_rest : (w v : World) → next_of w draining ≡ rests v → ⊥
drain_rest w v is = by (next_turn w) is
  where
    by : (o : Option Cause) → next_of_drain w o ≡ rests v → ⊥
    by None g = no_rest tells_quiet w v resting g
    by (Some x) g = no_rest x w v draining g

-- THE STAGE
pub data Told (acts : List Act) (w : World) (free : Option ℕ) : Line → Work → Type 0 where
  turning_at : (count left : ℕ) → AllByRecursion NoWord acts → made acts + left ≡ count → Told acts w free (Turns count) (turning count left)
  busy_at : (count : ℕ) (front : List Act) → acts ≡ front ++ writes (busy count) ∷ [] → AllByRecursion NoWord front → made front ≡ count → waits w ≡ true → free ≡ None → Told acts w free (Turns count) resting
  draining_at : AllByRecursion NoWord acts → Told acts w free Drain draining
  quiet_at : (front : List Act) → acts ≡ front ++ writes quiet ∷ [] → AllByRecursion NoWord front → waits w ≡ false → free ≡ None → Told acts w free Drain resting
  other_at : (line : Line) (work : Work) → IsOther line → OtherWork work → AllByRecursion NoWord acts → Told acts w free line work

abbrev pub Stage : List Act → Line → List Act → World → Option ℕ → Work → Type 0
Stage before line acts w free work = Told acts w free line work

-- what stands where a line ends
pub record EndsAs (line : Line) (acts : List Act) (waiting : Bool) : Type 0 where
  pub told : acts ≡ filter (λ act. not (writes_a wording act)) acts ++ word_due line waiting
  pub made : TurnsAreMade line (length (filter is_move acts)) waiting

pub record Ended (before : List Act) (line : Line) (acts : List Act) : Type 0 where
  pub world : World
  pub ran : Ran (before ++ acts) world None None
  pub lives : Lives (entries_in (before ++ acts))
  pub well : RestsWell world
  pub ending : EndsAs line acts (waits world)

did_stage : (run : List Act) (w : World) (line : Line) (c : Cause) → LineDid w line (does w c) → (v : World) (free : Option ℕ) → Told (map writes (does w c).entries) v free line resting
did_stage run w line c d v free = other_at line resting (did_other w line (does w c) d) tt (no_words_written (does w c).entries (line_all Wordless lines_no w line (does w c) d))

nothing_more : (n : ℕ) → 0 + n ≡ n
nothing_more n = omega arith

began_stage : (w : World) (line : Line) → IsBareLine line → Told (line_moves w (works.work_of w line)) w None line (works.work_of w line)
began_stage w Blank b = other_at Blank resting tt tt tt
began_stage w (Bytes who up count) b =
    other_at (Bytes who up count) (with_conn (conn_of w.ends who) (works.moving up count)) tt (bytes_other (conn_of w.ends who) up count)
    (no_words (line_moves w (works.work_of w (Bytes who up count))) (line_moves_are w (works.work_of w (Bytes who up count))))
began_stage w (Turns count) b = turning_at count count tt (nothing_more count)
began_stage w Drain b = draining_at tt
began_stage w line b = absurd b

turn_words : (w : World) (work : Work) (c : Cause) → IsTurn c → TurnDid w c (does w c) → AllByRecursion NoWord (moves_for w work c ++ map writes (does w c).entries)
turn_words w work c i t =
    all_append NoWord (moves_for w work c) (map writes (does w c).entries) (no_words (moves_for w work c) (moves_are w work c)) (no_words_written (does w c).entries (turn_no w c (does w c) i t))

counted : (acts : List Act) (w : World) (c : Cause) (left count : ℕ) → IsTurn c → made acts + suc left ≡ count → made (acts ++ (turn_move w c ++ map writes (does w c).entries)) + left ≡ count
counted acts w c left count i sum =
    let es : List Act = map writes (does w c).entries in
    let all : made (acts ++ (turn_move w c ++ es)) ≡ made acts + (made (turn_move w c) + made es) = made_more acts (turn_move w c ++ es) ∙ ap (λ k. made acts + k) (made_more (turn_move w c) es) in
    let one : made (turn_move w c) ≡ 1 = one_turn w c i in
    let none : made es ≡ 0 = made_written (does w c).entries in
    omega (arith, sum, all, one, none)

turns_stage : (acts : List Act) (w : World) (count n : ℕ) (c : Cause) (left : Work) → AllByRecursion NoWord acts → made acts + n ≡ count → TurnsOn w count n c left → TurnDid w c (does w c) → (free : Option ℕ)
    → Told (acts ++ (moves_for w (turning count n) c ++ map writes (does w c).entries)) (does w c).world (freed c) (Turns count) left
turns_stage acts w count _ _ _ none sum (turned c left next) t free =
    let i : IsTurn c = is_turn w c next in
    turning_at count left (all_append NoWord acts (moves_for w (turning count (suc left)) c ++ map writes (does w c).entries) none (turn_words w (turning count (suc left)) c i t)) (counted acts w c left count i sum)
turns_stage acts w count _ _ _ none sum (told waiting) t free =
    let all : made acts ≡ count = let zero_left : made acts + 0 ≡ count = sum in omega (arith, zero_left) in
    busy_at count acts refl none all waiting refl

drains_stage : (acts : List Act) (w : World) (c : Cause) (left : Work) → AllByRecursion NoWord acts → DrainsOn w c left → TurnDid w c (does w c)
    → Told (acts ++ (moves_for w draining c ++ map writes (does w c).entries)) (does w c).world (freed c) Drain left
drains_stage acts w _ _ none (drained c next) t =
    draining_at (all_append NoWord acts (moves_for w draining c ++ map writes (does w c).entries) none (turn_words w draining c (is_turn w c next) t))
drains_stage acts w _ _ none (ended waiting) t = quiet_at acts refl none waiting refl

caused_stage : (before : List Act) (line : Line) (acts : List Act) (w : World) (free : Option ℕ) (work left : Work) (c : Cause) → Told acts w free line work → next_of w work ≡ cause c w left → IsBare work → TurnDid w c (does w c)
    → Told (acts ++ (moves_for w work c ++ map writes (does w c).entries)) (does w c).world (freed c) line left
caused_stage before _ acts w free _ left c (turning_at count n none sum) is bare t = turns_stage acts w count n c left none sum (turns_on w count n c left is) t free
caused_stage before _ acts w free _ left c (busy_at count front a none all waiting nobody) is bare t = absurd (rests_no w w c left is)
caused_stage before _ acts w free _ left c (draining_at none) is bare t = drains_stage acts w c left none (drains_on w c left is) t
caused_stage before _ acts w free _ left c (quiet_at front a none waiting nobody) is bare t = absurd (rests_no w w c left is)
caused_stage before _ acts w free _ left c (other_at line work o ow none) is bare t =
    let x = other_next w work left c bare ow is in
    other_at line left o x.1 (all_append NoWord acts (moves_for w work c ++ map writes (does w c).entries) none (turn_words w work c x.0 t))

made_last : (acts : List Act) (entry : Entry) → made (acts ++ writes entry ∷ []) ≡ made acts
made_last acts entry = let all : made (acts ++ writes entry ∷ []) ≡ made acts + 0 = made_more acts (writes entry ∷ []) in omega (arith, all)

asked_stage : (line : Line) (acts : List Act) (w v : World) (conn r : ℕ) (m : Envelope) (work : Work) → Told acts w (Some conn) line work → Told (acts ++ writes (sent (Reader r) m) ∷ []) v None line work
asked_stage _ acts w v conn r m _ (turning_at count n none sum) =
    turning_at count n (all_append NoWord acts (writes (sent (Reader r) m) ∷ []) none (refl, tt)) (ap (λ k. k + n) (made_last acts (sent (Reader r) m)) ∙ sum)
asked_stage _ acts w v conn r m _ (busy_at count front a none all waiting nobody) = absurd (no_none conn (sym nobody))
asked_stage _ acts w v conn r m _ (draining_at none) = draining_at (all_append NoWord acts (writes (sent (Reader r) m) ∷ []) none (refl, tt))
asked_stage _ acts w v conn r m _ (quiet_at front a none waiting nobody) = absurd (no_none conn (sym nobody))
asked_stage _ acts w v conn r m _ (other_at line work o ow none) = other_at line work o ow (all_append NoWord acts (writes (sent (Reader r) m) ∷ []) none (refl, tt))

-- WHERE THE LINE ENDS
abbrev plain : List Act → List Act
plain acts = filter (λ act. not (writes_a wording act)) acts

none_left_out : (acts : List Act) → AllByRecursion NoWord acts → plain acts ≡ acts
none_left_out [] a = refl
none_left_out (act ∷ acts) a = ap (λ b. if not b then act ∷ plain acts else plain acts) a.0 ∙ ap (λ l. act ∷ l) (none_left_out acts a.1)

word_left_out : (acts : List Act) (entry : Entry) → is_a wording entry ≡ true → AllByRecursion NoWord acts → plain (acts ++ writes entry ∷ []) ≡ acts
word_left_out [] entry h a = ap (λ b. if not b then writes entry ∷ [] else []) h
word_left_out (act ∷ acts) entry h a = ap (λ b. if not b then act ∷ plain (acts ++ writes entry ∷ []) else plain (acts ++ writes entry ∷ [])) a.0 ∙ ap (λ l. act ∷ l) (word_left_out acts entry h a.1)

no_word_due : (line : Line) (b : Bool) → IsOther line → word_due line b ≡ []
no_word_due Blank b o = refl
no_word_due (Quota quota) b o = refl
no_word_due (App_line name) b o = refl
no_word_due Reader_line b o = refl
no_word_due (Edit_line app edit) b o = refl
no_word_due (Call reader app node deed) b o = refl
no_word_due (Swap app) b o = refl
no_word_due (Exit app) b o = refl
no_word_due (Leave reader) b o = refl
no_word_due (Bytes who up count) b o = refl
no_word_due (Turns count) b o = absurd o
no_word_due Drain b o = absurd o
no_word_due (Show reader app) b o = refl

no_turns : (line : Line) (k : ℕ) (b : Bool) → IsOther line → TurnsAreMade line k b
no_turns Blank k b o = tt
no_turns (Quota quota) k b o = tt
no_turns (App_line name) k b o = tt
no_turns Reader_line k b o = tt
no_turns (Edit_line app edit) k b o = tt
no_turns (Call reader app node deed) k b o = tt
no_turns (Swap app) k b o = tt
no_turns (Exit app) k b o = tt
no_turns (Leave reader) k b o = tt
no_turns (Bytes who up count) k b o = tt
no_turns (Turns count) k b o = absurd o
no_turns Drain k b o = absurd o
no_turns (Show reader app) k b o = tt

wordless : (line : Line) (acts : List Act) (b : Bool) → word_due line b ≡ [] → AllByRecursion NoWord acts → acts ≡ plain acts ++ word_due line b
wordless line acts b none a = sym (ap (λ l. plain acts ++ l) none ∙ append-nil (plain acts) ∙ none_left_out acts a)

with_word : (front acts : List Act) (entry : Entry) (due : List Act) → acts ≡ front ++ writes entry ∷ [] → is_a wording entry ≡ true → AllByRecursion NoWord front → due ≡ writes entry ∷ [] → acts ≡ plain acts ++ due
with_word front acts entry due is h a word =
    is ∙ sym (ap (λ l. plain l ++ due) is ∙ ap (λ l. l ++ due) (word_left_out front entry h a) ∙ ap (λ l. front ++ l) word)

ended_as : (line : Line) (acts : List Act) (w v : World) (free : Option ℕ) (work : Work) → Told acts w free line work → next_of w work ≡ rests v → EndsAs line acts (waits v)
ended_as _ acts w v free _ (turning_at count n none sum) is =
    let x = turns_rest w v count n is in
    let still : waits v ≡ false = ap waits (sym x.0) ∙ x.1 in
    subst (EndsAs (Turns count) acts) (sym still)
    (record { told = wordless (Turns count) acts false refl none; made = (at_most n (made acts) count sum, λ h. absurd (false_true h)) })
  where
    at_most : (n k count : ℕ) → k + n ≡ count → nat_le k count ≡ true
    at_most n k count h = let below : k ≤ count = omega (arith, h) in le-leb k count below
ended_as _ acts w v free _ (busy_at count front a none all waiting nobody) is =
    let still : waits v ≡ true = ap waits (sym (rest_same w v is)) ∙ waiting in
    let many : made acts ≡ count = ap made a ∙ made_last front (busy count) ∙ all in
    subst (EndsAs (Turns count) acts) (sym still)
    (record { told = with_word front acts (busy count) (writes (busy count) ∷ []) a refl none refl; made = (same_le (made acts) count many, λ h. many) })
  where
    same_le : (k count : ℕ) → k ≡ count → nat_le k count ≡ true
    same_le k count h = let below : k ≤ count = omega (arith, h) in le-leb k count below
ended_as _ acts w v free _ (draining_at none) is = absurd (drain_rest w v is)
ended_as _ acts w v free _ (quiet_at front a none waiting nobody) is =
    let still : waits v ≡ false = ap waits (sym (rest_same w v is)) ∙ waiting in
    subst (EndsAs Drain acts) (sym still) (record { told = with_word front acts quiet (writes quiet ∷ []) a refl none refl; made = refl })
ended_as _ acts w v free _ (other_at line work o ow none) is =
    record { told = wordless line acts (waits v) (no_word_due line (waits v) o) none; made = no_turns line (made acts) (waits v) o }

pub words_stage : IsStage Ended Stage
words_stage = record {
  did_ = λ run w line c r d. did_stage run w line c d (does w c).world _;
  began_ = λ run w line r live ok b. began_stage w line b;
  caused_ = λ before line acts w free work left c s r live is bare t. caused_stage before line acts w free work left c s is bare t;
  asked_ = λ before line acts w conn r m question work s. asked_stage line acts w _ conn r m work s;
  rested_ = λ before line acts w v free work s r live is well. record { world = v; ran = r; lives = live; well = well; ending = ended_as line acts w v free work s is };
}
