-- WHAT IS TAKEN BEHIND MOVES, along a run: behind each move stand the messages that it completes; while a line moves bytes, those that were taken so
-- far and those that are to come are what its move completes.
use Rattle.std.proofs.Common.{◌≡◌, ◌⊎◌, inl, inr, ℕ, zero, suc, ◌+◌, ◌-◌, ◌<◌, ◌≤◌, Bool, true, false, List, [], ◌∷◌, ◌++◌, length, map, drop, Option, None, Some, refl, sym, ap, ap₂, ◌∙◌, subst, arith, min}
use Rattle.std.specs.Prelude.{◌||◌, filter}
use Rattle.std.specs.List.{AllByRecursion, list_any}
use Rattle.std.proofs.lemmas.List.{append-nil, append_assoc}
use Rattle.atspi_script_lines.specs.declared.line.Line.{Line}
use Rattle.atspi_script_lines.specs.declared.line.Party.{Party}
use Rattle.atspi_script_lines.specs.declared.line.Party.TheVariants.{Bus as The_bus, Registry, App, Reader}
use Rattle.atspi_message.specs.Envelope.{Envelope}
use Rattle.atspi_protocol.specs.registering.Steps.{registry_takes}
use Rattle.atspi_protocol.specs.exporting.Taking.{app_takes}
use Rattle.atspi_protocol.specs.declared.following.question.Question.{Question}
use Rattle.atspi_trace.specs.Entry.{Entry, sent, got, busy, quiet}
use Rattle.atspi_trace.specs.World.{Standing, here, stopped, away, Said, Letter, Role, the_registry, an_application, a_reader, End, World}
use Rattle.atspi_trace.specs.Ends.{number_of, party_at, whose, end_at, with_end, rest_of, taken_up, taken_down}
use Rattle.atspi_trace.specs.Carrying as carrying
use Rattle.atspi_trace.specs.Causes.{Cause, tells_busy, tells_quiet, routes, unjoins, gets, Done, does, at_end, has_done, registry_did, missing, without_bytes}
use Rattle.atspi_trace.specs.Hearing.{hears_letter}
use Rattle.atspi_trace.specs.Work.{Work, resting, doing, moving_up, moving_down, turning, draining, cause, rests, next_of, work_of}
use Rattle.atspi_trace.specs.Due.{freed, asks_as, asks_at}
use Rattle.atspi_headline.specs.Words.{Act, begins_line, moves_bytes, takes_end, writes, entries_in, is_entry, is_a, getting, Along}
use Rattle.atspi_headline.specs.Links.{size, sizes, moved, link, whole_in, completed}
use Rattle.atspi_headline.specs.Headline.{got_of, gots_due, is_drop_of}
use Rattle.atspi_trace_laws.proofs.OfOrder.Parties.{no_none, same_some}
use Rattle.atspi_trace_laws.proofs.OfOrder.Frame.{Over, IsOrder, over_with, with_cases, at_changed}
use Rattle.atspi_trace_laws.proofs.OfOrder.Allowed.{IsBare}
use Rattle.atspi_trace_laws.proofs.OfOrder.Effects.{received, BusTakes, BusEnds}
use Rattle.atspi_trace_laws.proofs.OfOrder.Shaped.{received_at}
use Rattle.atspi_trace_laws.proofs.OfQuiet.Here.{forward}
use Rattle.atspi_trace_laws.proofs.OfHeard.Quiet.{heard_all}
use Rattle.atspi_trace_laws.proofs.OfOwn.Writing.{Lives}
use Rattle.atspi_headline_laws.proofs.Ran.{Ran, nothing_yet, did, began, caused, rested, asked, first_missing, next_missing, up_missing, down_missing, up_move, down_move, at_known, turn_move, stopped_move, moves_for, line_moves, said_bytes, letter_bytes}
use Rattle.atspi_headline_laws.proofs.Making.{entries_written}
use Rattle.atspi_headline_laws.proofs.Keeping.{shape_along}
use Rattle.atspi_headline_laws.proofs.Acting.{LineDid, line_did, TurnDid, turn_did, bare_quiet, told_busy, told_quiet, bus_took, bus_ended, registry_took, app_took, reader_took, IsBareLine, bare_line}
use Rattle.atspi_headline_laws.proofs.Sorting.{AppSorts, BusSorts, LineSorts, sent_all, app_all, of_bus_all, line_all}
use Rattle.atspi_headline_laws.proofs.Growing.{Front, front_of, lived_before}
use Rattle.atspi_headline_links.proofs.Sizes.{Mail, IsBegun, completed_is, whole_capped, whole_next, whole_one, whole_less, none_moved, begun_within}
use Rattle.atspi_headline_links.proofs.Moved.{moved_more}
use Rattle.atspi_headline_links.proofs.Sent.{ups, took_up, ups_are, link_is, messages_more}
use Rattle.atspi_headline_links.proofs.Nexts.{GoesUp, StopsUp, up_goes, UpRest, stays, goes_on, up_rests, DownRest, down_rests, none_rests, IsTurning, turns_leave, drain_leaves, GoesDown, down_goes}
use Rattle.atspi_headline_links.proofs.Marks.{UpTie, UpTied, NotUp, none_ahead, bytes_are, up_tied, free_down, no_gets, no_rest_cause}
use Rattle.atspi_headline_links.proofs.Blocks.{Behind, block_more, NoGot, none_got, line_stands, end_stands, stands_more, UpMid, DownMid, up_through, up_dropped, down_through, up_on, down_on, up_turn, down_turn}
use Rattle.atspi_headline_links.proofs.Keeping.{SameUp, bus_took_same}
use Rattle.atspi_headline_links.proofs.Dropping.{drop_told}

-- WHAT A MOVE COMPLETES, of an end that is here
abbrev pub UpIs : List Act → World → Type 0
UpIs run w = (k : ℕ) (e : End) → end_at w.ends k ≡ Some e → e.standing ≡ here → ((n : ℕ) → completed run e.who true n ≡ whole_in (e.up_moved + n) (ups e)) × IsBegun e.up_moved (ups e)

-- what lies on a link from the bus
abbrev pub downs_of : List Letter → Mail
downs_of ls = map (λ (l : Letter). (l.from, l.said.message)) ls

abbrev pub downs : End → Mail
downs e = downs_of e.down

abbrev pub DownIs : List Act → World → Type 0
DownIs run w = (k : ℕ) (e : End) → end_at w.ends k ≡ Some e → e.standing ≡ here → ((n : ℕ) → completed run e.who false n ≡ whole_in (e.down_moved + n) (downs e)) × IsBegun e.down_moved (downs e)

-- the mark of a link is within its first message
abbrev pub UpBegun : World → Type 0
UpBegun w = (k : ℕ) (e : End) → end_at w.ends k ≡ Some e → e.standing ≡ here → IsBegun e.up_moved (ups e)

abbrev pub DownBegun : World → Type 0
DownBegun w = (k : ℕ) (e : End) → end_at w.ends k ≡ Some e → e.standing ≡ here → IsBegun e.down_moved (downs e)

pub up_is : (run : List Act) (w : World) (free : Option ℕ) (at : Option Work) → Front run w free → NotUp at → UpTied run w at → UpIs run w
up_is run w free at f n i k e there standing = (
  λ count.
      let t : UpTie run e 0 = subst (UpTie run e) (none_ahead at k e n) (i k e there standing) in
      let l : link run e.who true ≡ took_up run e.who ++ ups e = link_is run e (ups_are run w free f k e there standing) in
      ap (λ ms. drop (length (whole_in (moved run e.who true) ms)) (whole_in (moved run e.who true + count) ms)) l
      ∙ completed_is (took_up run e.who) (ups e) (moved run e.who true) e.up_moved count (less (moved run e.who true) (sizes (took_up run e.who)) e.up_moved t.moved) t.begun,
  (i k e there standing).begun,
)
  where
    less : (m s u : ℕ) → m ≡ (s + u) + 0 → m ≡ s + u
    less m s u h = omega (arith, h)

-- behind the beginning of a line too
line_same : (run : List Act) (line : Line) (who : Party) (n : ℕ) → completed (run ++ begins_line line ∷ []) who true n ≡ completed run who true n
line_same run line who n =
    let l : link (run ++ begins_line line ∷ []) who true ≡ link run who true = ap (map (λ e. (who, e))) (messages_more run (begins_line line ∷ []) who ∙ append-nil _) in
    let m : moved (run ++ begins_line line ∷ []) who true ≡ moved run who true = moved_more who true run (begins_line line ∷ []) ∙ plus_none (moved run who true) in
    ap₂ (λ ms k. drop (length (whole_in k ms)) (whole_in (k + n) ms)) l m
  where
    plus_none : (k : ℕ) → k + 0 ≡ k
    plus_none k = omega arith

-- THE LAST BLOCK of a run: closed, or in the midst of a line `bytes`
abbrev up_ahead : End → ℕ → List Entry
up_ahead e count = map (got_of The_bus) (whole_in (e.up_moved + count) (ups e))

abbrev down_ahead : End → ℕ → List Entry
down_ahead e count = map (got_of e.who) (whole_in (e.down_moved + count) (downs e))

abbrev up_at : List Act → Act → List Entry → ℕ → End → Standing → Type 0
up_at front act es count e here = UpMid front act es e.who (up_ahead e count)
up_at front act es count e standing = Behind front act (map writes es)

abbrev up_owed : List Act → Act → List Entry → ℕ → Option End → Type 0
up_owed front act es count None = Behind front act (map writes es)
up_owed front act es count (Some e) = up_at front act es count e e.standing

abbrev down_at : List Act → Act → List Entry → ℕ → End → Standing → Type 0
down_at front act es count e here = DownMid front act es e.who (down_ahead e count)
down_at front act es count e standing = Behind front act (map writes es)

abbrev down_owed : List Act → Act → List Entry → ℕ → Option End → Type 0
down_owed front act es count None = Behind front act (map writes es)
down_owed front act es count (Some e) = down_at front act es count e e.standing

abbrev Owed : World → Option Work → List Act → Act → List Entry → Type 0
Owed w (Some (moving_up conn count)) front act es = up_owed front act es count (end_at w.ends conn)
Owed w (Some (moving_down conn count)) front act es = down_owed front act es count (end_at w.ends conn)
Owed w at front act es = Behind front act (map writes es)

pub record Now (run : List Act) (w : World) (at : Option Work) : Type 0 where
  pub front : List Act
  pub act : Act
  pub es : List Entry
  pub is : run ≡ front ++ act ∷ map writes es
  pub no_entry : is_entry act ≡ false
  pub before : Along Behind [] front
  pub owed : Owed w at front act es

abbrev IsIdle : Option Work → Type 0
IsIdle None = Unit {0}
IsIdle (Some resting) = Unit {0}
IsIdle at = ⊥

abbrev pub State : List Act → World → Option ℕ → Option Work → Type 0
State run w free at = ((run ≡ []) × IsIdle at × (free ≡ None)) ⊎ Now run w at

-- where nothing is in the midst, the law holds so far
abbrev IsStill : Option Work → Type 0
IsStill (Some (moving_up conn count)) = ⊥
IsStill (Some (moving_down conn count)) = ⊥
IsStill at = Unit {0}

owed_still : (w : World) (at : Option Work) (front : List Act) (act : Act) (es : List Entry) → IsStill at → Owed w at front act es → Behind front act (map writes es)
owed_still w None front act es s o = o
owed_still w (Some (moving_up conn count)) front act es s o = absurd s
owed_still w (Some (moving_down conn count)) front act es s o = absurd s
owed_still w (Some (turning count left)) front act es s o = o
owed_still w (Some draining) front act es s o = o
owed_still w (Some resting) front act es s o = o
owed_still w (Some (doing c)) front act es s o = o

still_owed : (w : World) (at : Option Work) (front : List Act) (act : Act) (es : List Entry) → IsStill at → Behind front act (map writes es) → Owed w at front act es
still_owed w None front act es s o = o
still_owed w (Some (moving_up conn count)) front act es s o = absurd s
still_owed w (Some (moving_down conn count)) front act es s o = absurd s
still_owed w (Some (turning count left)) front act es s o = o
still_owed w (Some draining) front act es s o = o
still_owed w (Some resting) front act es s o = o
still_owed w (Some (doing c)) front act es s o = o

closed_by : (run : List Act) (w : World) (at : Option Work) → IsStill at → Now run w at → Along Behind [] run
closed_by run w at s n = subst (Along Behind []) (sym n.is) (block_more n.front n.act n.es n.no_entry n.before (owed_still w at n.front n.act n.es s n.owed))

pub closed : (run : List Act) (w : World) (free : Option ℕ) (at : Option Work) → IsStill at → State run w free at → Along Behind [] run
closed run w free at s (inl none) = subst (Along Behind []) (sym none.0) tt
closed run w free at s (inr n) = closed_by run w at s n

-- a block begins
opened : (run acts : List Act) (act : Act) (es : List Entry) (w : World) (free : Option ℕ) (at : Option Work) → acts ≡ act ∷ map writes es → is_entry act ≡ false → Along Behind [] run → Owed w at run act es → State (run ++ acts) w free at
opened run acts act es w free at is none before owed = inr (record { front = run; act = act; es = es; is = ap (λ l. run ++ l) is; no_entry = none; before = before; owed = owed })

-- and goes on
map_both : (xs ys : List Entry) → map writes (xs ++ ys) ≡ map writes xs ++ map writes ys
map_both [] ys = refl
map_both (x ∷ xs) ys = ap (λ l. writes x ∷ l) (map_both xs ys)

went_on : (run : List Act) (ys : List Entry) (w v : World) (free : Option ℕ) (at now : Option Work) (n : Now run w at) → Owed v now n.front n.act (n.es ++ ys) → State (run ++ map writes ys) v free now
went_on run ys w v free at now n owed = inr (record {
  front = n.front;
  act = n.act;
  es = n.es ++ ys;
  is = ap (λ l. l ++ map writes ys) n.is ∙ append_assoc n.front (n.act ∷ map writes n.es) (map writes ys) ∙ ap (λ l. n.front ++ n.act ∷ l) (sym (map_both n.es ys));
  no_entry = n.no_entry;
  before = n.before;
  owed = owed;
})

-- ENTRIES of which none is taken
apps_none : AppSorts NoGot
apps_none = record { steps_ = λ app step. refl; sends_ = λ app e. refl; hears_ = λ app listener pattern. refl; deaf_ = λ app listener pattern. refl }

bus_none : BusSorts NoGot
bus_none = record { says_ = λ e. refl; drops_ = λ who queued len. refl }

sent_none : (who : Party) (e : Envelope) → NoGot (sent who e)
sent_none The_bus e = refl
sent_none Registry e = refl
sent_none (App a) e = refl
sent_none (Reader r) e = refl

lines_none : LineSorts NoGot
lines_none = record { app = apps_none; starts_ = λ who name. refl; calls_ = sent_none; exits_ = λ who. refl; shows_ = λ reader app rows. refl }

-- what an end takes in a turn: one message
pub record TakesOne (w : World) (c : Cause) (d : Done) : Type 0 where
  pub conn : ℕ
  pub e : End
  pub letter : Letter
  pub rest : List Letter
  pub there : end_at w.ends conn ≡ Some e
  pub standing : e.standing ≡ here
  pub link : e.down ≡ letter ∷ rest
  pub cause_is : c ≡ gets conn
  pub wrote : filter (is_a getting) d.entries ≡ got e.who letter.from letter.said.message.serial ∷ []
  pub x : End
  pub after : end_at d.world.ends conn ≡ Some x
  pub whose : x.who ≡ e.who
  pub stays_here : x.standing ≡ here
  pub left : x.down ≡ rest
  pub mark : x.down_moved ≡ 0
  pub others : (k : ℕ) (y : End) → (k ≡ conn → ⊥) → end_at d.world.ends k ≡ Some y → end_at w.ends k ≡ Some y
  pub bus_is : d.world.bus ≡ without_bytes conn (missing letter.said.message e.down_moved) w.bus

one_got : (who from : Party) (serial : ℕ) (es : List Entry) → AllByRecursion NoGot es → filter (is_a getting) (got who from serial ∷ es) ≡ got who from serial ∷ []
one_got who from serial es a = ap (λ l. got who from serial ∷ l) (none_got es a)

taken_of : (w : World) (conn : ℕ) (e : End) (letter : Letter) (f : End → End) → end_at w.ends conn ≡ Some e → end_at (with_end conn f (received w conn e letter).ends) conn ≡ Some (f (taken_down e))
taken_of w conn e letter f h = at_changed f (received w conn e letter).ends conn (taken_down e) (received_at w conn e letter h)

others_stay : (w : World) (conn : ℕ) (e : End) (letter : Letter) (f : End → End) (k : ℕ) (y : End) → (k ≡ conn → ⊥) → end_at (with_end conn f (received w conn e letter).ends) k ≡ Some y → end_at w.ends k ≡ Some y
others_stay w conn e letter f k y differ h = outer (with_cases f (received w conn e letter).ends conn k y h)
  where
    inner : (x : End) → end_at (with_end conn taken_down w.ends) k ≡ Some x → end_at w.ends k ≡ Some x
    inner x g = of (with_cases taken_down w.ends conn k x g)
      where
        of : ((z : End) × (end_at w.ends k ≡ Some z) × (((k ≡ conn) × (x ≡ taken_down z)) ⊎ ((k ≡ conn → ⊥) × (x ≡ z)))) → end_at w.ends k ≡ Some x
        of z = at z.2
          where
            at : (((k ≡ conn) × (x ≡ taken_down z.0)) ⊎ ((k ≡ conn → ⊥) × (x ≡ z.0))) → end_at w.ends k ≡ Some x
            at (inl c) = absurd (differ c.0)
            at (inr c) = z.1 ∙ ap Some (sym c.1)

    outer : ((x : End) × (end_at (with_end conn taken_down w.ends) k ≡ Some x) × (((k ≡ conn) × (y ≡ f x)) ⊎ ((k ≡ conn → ⊥) × (y ≡ x)))) → end_at w.ends k ≡ Some y
    outer x = at x.2
      where
        at : (((k ≡ conn) × (y ≡ f x.0)) ⊎ ((k ≡ conn → ⊥) × (y ≡ x.0))) → end_at w.ends k ≡ Some y
        at (inl c) = absurd (differ c.0)
        at (inr c) = inner y (x.1 ∙ ap Some (sym c.1))

pub takes_one : (w : World) (c : Cause) (d : Done) → TurnDid w c d → ((b : BusTakes w d) → c ≡ routes b.conn → ⊥) → ((b : BusEnds w d) → c ≡ unjoins b.conn → ⊥) → ((turns : ℕ) → c ≡ tells_busy turns → ⊥) → (c ≡ tells_quiet → ⊥) → TakesOne w c d
takes_one w _ _ (told_busy turns) a b n q = absurd (n turns refl)
takes_one w _ _ (told_quiet none) a b n q = absurd (q refl)
takes_one w _ _ (bus_took d t) a b n q = absurd (a t refl)
takes_one w _ _ (bus_ended d t) a b n q = absurd (b t refl)
takes_one w _ _ (registry_took d t) a b n q =
    let step = registry_takes t.before t.letter.said.message in
    record {
      conn = t.conn;
      e = t.e;
      letter = t.letter;
      rest = t.rest;
      there = t.is_here.there;
      standing = t.is_here.standing;
      link = t.link;
      cause_is = refl;
      wrote = subst (λ (z : Done). filter (is_a getting) z.entries ≡ got t.e.who t.letter.from t.letter.said.message.serial ∷ []) (sym t.is)
          (one_got t.e.who t.letter.from t.letter.said.message.serial (map (sent t.e.who) step.sent) (sent_all NoGot t.e.who (sent_none t.e.who) step.sent));
      x = registry_did step (taken_down t.e);
      after = ap (λ (z : Done). end_at z.world.ends t.conn) t.is ∙ taken_of w t.conn t.e t.letter (registry_did step) t.is_here.there;
      whose = refl;
      stays_here = t.is_here.standing;
      left = ap rest_of t.link;
      mark = refl;
      others = λ k y differ h. others_stay w t.conn t.e t.letter (registry_did step) k y differ (sym (ap (λ (z : Done). end_at z.world.ends k) t.is) ∙ h);
      bus_is = ap (λ (z : Done). z.world.bus) t.is;
    }
takes_one w _ _ (app_took d t) a b n q =
    let s = app_takes t.before t.letter.said.message in
    record {
      conn = t.conn;
      e = t.e;
      letter = t.letter;
      rest = t.rest;
      there = t.is_here.there;
      standing = t.is_here.standing;
      link = t.link;
      cause_is = refl;
      wrote = subst (λ (z : Done). filter (is_a getting) z.entries ≡ got t.e.who t.letter.from t.letter.said.message.serial ∷ []) (sym t.is)
          (one_got t.e.who t.letter.from t.letter.said.message.serial _ (app_all NoGot apps_none _ s.out));
      x = has_done t.before s (taken_down t.e);
      after = ap (λ (z : Done). end_at z.world.ends t.conn) t.is ∙ taken_of w t.conn t.e t.letter (has_done t.before s) t.is_here.there;
      whose = refl;
      stays_here = t.is_here.standing;
      left = ap rest_of t.link;
      mark = refl;
      others = λ k y differ h. others_stay w t.conn t.e t.letter (has_done t.before s) k y differ (sym (ap (λ (z : Done). end_at z.world.ends k) t.is) ∙ h);
      bus_is = ap (λ (z : Done). z.world.bus) t.is;
    }
takes_one w _ _ (reader_took d t) a b n q =
    let h = hears_letter t.hearer (received w t.conn t.e t.letter).ends t.letter in
    record {
      conn = t.conn;
      e = t.e;
      letter = t.letter;
      rest = t.rest;
      there = t.is_here.there;
      standing = t.is_here.standing;
      link = t.link;
      cause_is = refl;
      wrote = subst (λ (z : Done). filter (is_a getting) z.entries ≡ got t.e.who t.letter.from t.letter.said.message.serial ∷ []) (sym t.is)
          (one_got t.e.who t.letter.from t.letter.said.message.serial _
          (heard_all NoGot (λ r app line. refl) (λ r app. refl) (number_of t.e.who) t.hearer (received w t.conn t.e t.letter).ends t.letter));
      x = record (taken_down t.e) { role = a_reader h };
      after = ap (λ (z : Done). end_at z.world.ends t.conn) t.is ∙ taken_of w t.conn t.e t.letter (λ z. record z { role = a_reader h }) t.is_here.there;
      whose = refl;
      stays_here = t.is_here.standing;
      left = ap rest_of t.link;
      mark = refl;
      others = λ k y differ g. others_stay w t.conn t.e t.letter (λ z. record z { role = a_reader h }) k y differ (sym (ap (λ (z : Done). end_at z.world.ends k) t.is) ∙ g);
      bus_is = ap (λ (z : Done). z.world.bus) t.is;
    }

pub letters_are : (ls : List Letter) → letter_bytes ls ≡ sizes (downs_of ls)
letters_are [] = refl
letters_are (l ∷ ls) = sum (size l.said.message) (letter_bytes ls) (sizes (downs_of ls)) (letters_are ls)
  where
    sum : (a b c : ℕ) → b ≡ c → (a - 0) + b ≡ a + c
    sum a b c h = omega (arith, h)

-- what the bus takes in a turn: one message, or none with an end
bus_got : (w : World) (d : Done) (b : BusTakes w d) → filter (is_a getting) d.entries ≡ got The_bus b.e.who b.said.message.serial ∷ []
bus_got w d b =
    let c = carrying.takes (record { bus = w.bus; ends = w.ends }) b.conn b.e.who b.said in
    ap (λ (x : Done). filter (is_a getting) x.entries) b.is
    ∙ one_got The_bus b.e.who b.said.message.serial (carrying.bus_entries c.ends c.bus.own c.bus.closings) (of_bus_all NoGot bus_none c.ends c.bus.own c.bus.closings)

end_none : (w : World) (d : Done) (b : BusEnds w d) → AllByRecursion NoGot d.entries
end_none w d b =
    let c = carrying.takes_end (record { bus = w.bus; ends = w.ends }) b.conn in
    subst (λ (x : Done). AllByRecursion NoGot x.entries) (sym b.is) (of_bus_all NoGot bus_none c.ends c.bus.own c.bus.closings)

-- A LINE `bytes` BEGINS
module _ (run : List Act) (w : World) (line : Line) (before : Along Behind [] run) (ups_is : UpIs run w) (downs_is : DownIs (run ++ begins_line line ∷ []) w) where
  first_block : Along Behind [] (run ++ begins_line line ∷ [])
  first_block = block_more run (begins_line line) [] refl before (line_stands run line [] tt)

  -- nothing is moved
  alone : (at : Option Work) (moves : List Act) → moves ≡ [] → Owed w at run (begins_line line) [] → State (run ++ begins_line line ∷ moves) w None at
  alone at moves none owed = opened run (begins_line line ∷ moves) (begins_line line) [] w None at (ap (λ l. begins_line line ∷ l) none) refl before owed

  -- one move
  moved_so : (at : Option Work) (moves : List Act) (act : Act) → is_entry act ≡ false → moves ≡ act ∷ [] → Owed w at (run ++ begins_line line ∷ []) act [] → State (run ++ begins_line line ∷ moves) w None at
  moved_so at moves act none one owed =
      subst (λ l. State l w None at) (append_assoc run (begins_line line ∷ []) moves)
      (opened (run ++ begins_line line ∷ []) moves act [] w None at one none first_block owed)

  nothing_due : (who taker : Party) (up : Bool) → map (got_of taker) (completed (run ++ begins_line line ∷ []) who up 0) ≡ []
  nothing_due who taker up = ap (map (got_of taker)) (none_moved (link (run ++ begins_line line ∷ []) who up) (moved (run ++ begins_line line ∷ []) who up))

  up_begun : (conn count : ℕ) (o : Option End) → end_at w.ends conn ≡ o → State (run ++ begins_line line ∷ line_moves w (moving_up conn count)) w None (Some (moving_up conn count))
  up_begun conn count None h =
      alone (Some (moving_up conn count)) (line_moves w (moving_up conn count)) (ap (λ o. at_known o (λ e. up_move count e e.standing)) h)
      (subst (λ o. up_owed run (begins_line line) [] count o) (sym h) (line_stands run line [] tt))
  up_begun conn count (Some e) h = by count refl e.standing refl
    where
      moves_are_so : (n : ℕ) → n ≡ count → (st : Standing) → e.standing ≡ st → line_moves w (moving_up conn count) ≡ up_move n e st
      moves_are_so n g st s = ap (λ o. at_known o (λ x. up_move count x x.standing)) h ∙ ap₂ (λ k t. up_move k e t) (sym g) s

      owed_so : (front : List Act) (act : Act) (st : Standing) → e.standing ≡ st → up_at front act [] count e st → Owed w (Some (moving_up conn count)) front act []
      owed_so front act st s x = subst (λ o. up_owed front act [] count o) (sym h) (subst (λ t. up_at front act [] count e t) (sym s) x)

      mid : e.standing ≡ here → UpMid (run ++ begins_line line ∷ []) (moves_bytes e.who true (min count (said_bytes e.up - e.up_moved))) [] e.who (up_ahead e count)
      mid s =
          let i = ups_is conn e h s in
          let n : ℕ = min count (said_bytes e.up - e.up_moved) in
          record {
            count = n;
            is = refl;
            owed = ap (map (got_of The_bus))
                (line_same run line e.who n ∙ i.0 n ∙ ap (λ b. whole_in (e.up_moved + min count (b - e.up_moved)) (ups e)) (bytes_are e.who e.up) ∙ whole_capped (ups e) e.up_moved count (begun_within e.up_moved (ups e) i.1));
          }

      none_at_all : (st : Standing) → e.standing ≡ st → up_move 0 e st ≡ moves_bytes e.who true 0 ∷ [] → up_at (run ++ begins_line line ∷ []) (moves_bytes e.who true 0) [] count e st → count ≡ 0 → State (run ++ begins_line line ∷ line_moves w (moving_up conn count)) w None (Some (moving_up conn count))
      none_at_all st s is x zero_count =
          moved_so (Some (moving_up conn count)) (line_moves w (moving_up conn count)) (moves_bytes e.who true 0) refl (moves_are_so 0 (sym zero_count) st s ∙ is) (owed_so (run ++ begins_line line ∷ []) (moves_bytes e.who true 0) st s x)

      empty_move : Behind (run ++ begins_line line ∷ []) (moves_bytes e.who true 0) (map writes [])
      empty_move = up_turn (run ++ begins_line line ∷ []) e.who 0 [] (nothing_due e.who The_bus true)

      by : (n : ℕ) → n ≡ count → (st : Standing) → e.standing ≡ st → State (run ++ begins_line line ∷ line_moves w (moving_up conn count)) w None (Some (moving_up conn count))
      by n g here s =
          moved_so (Some (moving_up conn count)) (line_moves w (moving_up conn count)) (moves_bytes e.who true (min count (said_bytes e.up - e.up_moved))) refl (moves_are_so count refl here s)
          (owed_so (run ++ begins_line line ∷ []) (moves_bytes e.who true (min count (said_bytes e.up - e.up_moved))) here s (mid s))
      by zero g stopped s = none_at_all stopped s refl empty_move (sym g)
      by (suc n) g stopped s =
          alone (Some (moving_up conn count)) (line_moves w (moving_up conn count)) (moves_are_so (suc n) g stopped s) (owed_so run (begins_line line) stopped s (line_stands run line [] tt))
      by zero g away s = none_at_all away s refl empty_move (sym g)
      by (suc n) g away s =
          moved_so (Some (moving_up conn count)) (line_moves w (moving_up conn count)) (moves_bytes e.who true 0) refl (moves_are_so (suc n) g away s)
          (owed_so (run ++ begins_line line ∷ []) (moves_bytes e.who true 0) away s empty_move)

  down_begun : (conn count : ℕ) (o : Option End) → end_at w.ends conn ≡ o → State (run ++ begins_line line ∷ line_moves w (moving_down conn count)) w None (Some (moving_down conn count))
  down_begun conn count None h =
      alone (Some (moving_down conn count)) (line_moves w (moving_down conn count)) (ap (λ o. at_known o (λ e. down_move count e e.standing)) h)
      (subst (λ o. down_owed run (begins_line line) [] count o) (sym h) (line_stands run line [] tt))
  down_begun conn count (Some e) h = by e.standing refl
    where
      moves_are_so : (st : Standing) → e.standing ≡ st → line_moves w (moving_down conn count) ≡ down_move count e st
      moves_are_so st s = ap (λ o. at_known o (λ x. down_move count x x.standing)) h ∙ ap (down_move count e) s

      owed_so : (act : Act) (st : Standing) → e.standing ≡ st → down_at (run ++ begins_line line ∷ []) act [] count e st → Owed w (Some (moving_down conn count)) (run ++ begins_line line ∷ []) act []
      owed_so act st s x = subst (λ o. down_owed (run ++ begins_line line ∷ []) act [] count o) (sym h) (subst (λ t. down_at (run ++ begins_line line ∷ []) act [] count e t) (sym s) x)

      empty_move : Behind (run ++ begins_line line ∷ []) (moves_bytes e.who false 0) (map writes [])
      empty_move =
          down_turn (run ++ begins_line line ∷ []) e.who 0 []
          (nothing_due e.who e.who false)

      mid : e.standing ≡ here → DownMid (run ++ begins_line line ∷ []) (moves_bytes e.who false (min count (letter_bytes e.down - e.down_moved))) [] e.who (down_ahead e count)
      mid s =
          let n : ℕ = min count (letter_bytes e.down - e.down_moved) in
          let i = downs_is conn e h s in
          record {
            count = n;
            is = refl;
            owed = ap (map (got_of e.who))
                (i.0 n ∙ ap (λ b. whole_in (e.down_moved + min count (b - e.down_moved)) (downs e)) (letters_are e.down) ∙ whole_capped (downs e) e.down_moved count (begun_within e.down_moved (downs e) i.1));
          }

      by : (st : Standing) → e.standing ≡ st → State (run ++ begins_line line ∷ line_moves w (moving_down conn count)) w None (Some (moving_down conn count))
      by here s =
          moved_so (Some (moving_down conn count)) (line_moves w (moving_down conn count)) (moves_bytes e.who false (min count (letter_bytes e.down - e.down_moved))) refl (moves_are_so here s)
          (owed_so (moves_bytes e.who false (min count (letter_bytes e.down - e.down_moved))) here s (mid s))
      by stopped s = moved_so (Some (moving_down conn count)) (line_moves w (moving_down conn count)) (moves_bytes e.who false 0) refl (moves_are_so stopped s) (owed_so (moves_bytes e.who false 0) stopped s empty_move)
      by away s = moved_so (Some (moving_down conn count)) (line_moves w (moving_down conn count)) (moves_bytes e.who false 0) refl (moves_are_so away s) (owed_so (moves_bytes e.who false 0) away s empty_move)

  begun_state : (work : Work) → IsBare work → State (run ++ begins_line line ∷ line_moves w work) w None (Some work)
  begun_state (moving_up conn count) b = up_begun conn count (end_at w.ends conn) refl
  begun_state (moving_down conn count) b = down_begun conn count (end_at w.ends conn) refl
  begun_state (turning count left) b = alone (Some (turning count left)) [] refl (line_stands run line [] tt)
  begun_state draining b = alone (Some draining) [] refl (line_stands run line [] tt)
  begun_state resting b = alone (Some resting) [] refl (line_stands run line [] tt)
  begun_state (doing c) b = absurd b

-- TURNS
pub turning_still : (left : Work) → IsTurning left → IsStill (Some left)
turning_still (turning count n) t = tt
turning_still draining t = tt
turning_still resting t = tt
turning_still (moving_up conn count) t = absurd t
turning_still (moving_down conn count) t = absurd t
turning_still (doing c) t = tt

first_up_is : (w : World) (conn : ℕ) (e : End) (said : Said) (rest : List Said) → end_at w.ends conn ≡ Some e → e.up ≡ said ∷ rest → turn_move w (routes conn) ≡ moves_bytes e.who true (size said.message - e.up_moved) ∷ []
first_up_is w conn e said rest h link =
    ap (λ o. moves_bytes (whose o) true (up_missing o) ∷ []) h ∙ ap (λ l. moves_bytes e.who true (first_missing l e.up_moved) ∷ []) link

first_down_is : (w : World) (conn : ℕ) (e : End) (letter : Letter) (rest : List Letter) → end_at w.ends conn ≡ Some e → e.down ≡ letter ∷ rest → turn_move w (gets conn) ≡ moves_bytes e.who false (size letter.said.message - e.down_moved) ∷ []
first_down_is w conn e letter rest h link =
    ap (λ o. moves_bytes (whose o) false (down_missing o) ∷ []) h ∙ ap (λ l. moves_bytes e.who false (next_missing l e.down_moved) ∷ []) link

module _ (run : List Act) (w : World) (free next : Option ℕ) (at : Option Work) (left : Work) (before : Along Behind [] run) (ups_is : UpIs run w) (downs_is : DownIs run w) (still : IsStill (Some left)) where
  bus_turn : (d : Done) (b : BusTakes w d) → State (run ++ (turn_move w (routes b.conn) ++ map writes d.entries)) d.world next (Some left)
  bus_turn d b =
      let lacks : ℕ = size b.said.message - b.e.up_moved in
      let i = ups_is b.conn b.e b.is_here.there b.is_here.standing in
      let begun : b.e.up_moved < size b.said.message = subst (λ l. IsBegun b.e.up_moved (map (λ (s : Said). (b.e.who, s.message)) l)) b.link i.1 in
      let one : completed run b.e.who true lacks ≡ (b.e.who, b.said.message) ∷ [] =
      i.0 lacks ∙ ap (λ l. whole_in (b.e.up_moved + lacks) (map (λ (s : Said). (b.e.who, s.message)) l)) b.link
      ∙ whole_one (b.e.who, b.said.message) (map (λ (s : Said). (b.e.who, s.message)) b.rest) b.e.up_moved begun in
      opened run (turn_move w (routes b.conn) ++ map writes d.entries) (moves_bytes b.e.who true lacks) d.entries d.world next (Some left)
      (ap (λ l. l ++ map writes d.entries) (first_up_is w b.conn b.e b.said b.rest b.is_here.there b.link)) refl before
      (still_owed d.world (Some left) run (moves_bytes b.e.who true lacks) d.entries still
      (up_turn run b.e.who lacks d.entries (ap (map (got_of The_bus)) one ∙ sym (bus_got w d b))))

  end_turn : (d : Done) (b : BusEnds w d) → State (run ++ (turn_move w (unjoins b.conn) ++ map writes d.entries)) d.world next (Some left)
  end_turn d b =
      opened run (turn_move w (unjoins b.conn) ++ map writes d.entries) (takes_end (party_at w.ends b.conn)) d.entries d.world next (Some left) refl refl before
      (still_owed d.world (Some left) run (takes_end (party_at w.ends b.conn)) d.entries still (end_stands run (party_at w.ends b.conn) d.entries (end_none w d b)))

  take_turn : (c : Cause) (d : Done) (t : TakesOne w c d) → State (run ++ (turn_move w c ++ map writes d.entries)) d.world next (Some left)
  take_turn c d t =
      let lacks : ℕ = size t.letter.said.message - t.e.down_moved in
      let i = downs_is t.conn t.e t.there t.standing in
      let begun : t.e.down_moved < size t.letter.said.message = subst (λ l. IsBegun t.e.down_moved (downs_of l)) t.link i.1 in
      let due : gots_due run (moves_bytes t.e.who false lacks) ≡ filter (is_a getting) d.entries =
      ap (map (got_of t.e.who))
      (i.0 lacks ∙ ap (λ l. whole_in (t.e.down_moved + lacks) (downs_of l)) t.link ∙ whole_one (t.letter.from, t.letter.said.message) (downs_of t.rest) t.e.down_moved begun)
      ∙ sym t.wrote in
      opened run (turn_move w c ++ map writes d.entries) (moves_bytes t.e.who false lacks) d.entries d.world next (Some left)
      (ap (λ l. l ++ map writes d.entries) (ap (turn_move w) t.cause_is ∙ first_down_is w t.conn t.e t.letter t.rest t.there t.link)) refl before
      (still_owed d.world (Some left) run (moves_bytes t.e.who false lacks) d.entries still (down_turn run t.e.who lacks d.entries due))

  word_turn : (entry : Entry) → NoGot entry → IsStill at → Now run w at → State (run ++ writes entry ∷ []) w next (Some left)
  word_turn entry none s n =
      went_on run (entry ∷ []) w w next at (Some left) n
      (still_owed w (Some left) n.front n.act (n.es ++ entry ∷ []) still
      (stands_more n.front n.act n.es (entry ∷ []) (none, tt) (owed_still w at n.front n.act n.es s n.owed)))

  turn_state : (c : Cause) (d : Done) → TurnDid w c d → IsStill at → Now run w at → State (run ++ (turn_move w c ++ map writes d.entries)) d.world next (Some left)
  turn_state _ _ (told_busy turns) s n = word_turn (busy turns) refl s n
  turn_state _ _ (told_quiet none) s n = word_turn quiet refl s n
  turn_state _ _ (bus_took d b) s n = bus_turn d b
  turn_state _ _ (bus_ended d b) s n = end_turn d b
  turn_state _ _ (registry_took d b) s n = take_turn (gets b.conn) d (takes_one w (gets b.conn) d (registry_took d b) (λ x h. absurd cc) (λ x h. absurd cc) (λ x h. absurd cc) (λ h. absurd cc))
  turn_state _ _ (app_took d b) s n = take_turn (gets b.conn) d (takes_one w (gets b.conn) d (app_took d b) (λ x h. absurd cc) (λ x h. absurd cc) (λ x h. absurd cc) (λ h. absurd cc))
  turn_state _ _ (reader_took d b) s n = take_turn (gets b.conn) d (takes_one w (gets b.conn) d (reader_took d b) (λ x h. absurd cc) (λ x h. absurd cc) (λ x h. absurd cc) (λ h. absurd cc))

-- BYTES OF A LINE
any_behind : (p : Entry → Bool) (xs ys : List Entry) → list_any p ys ≡ true → list_any p (xs ++ ys) ≡ true
any_behind p [] ys h = h
any_behind p (x ∷ xs) ys h = by (p x) (any_behind p xs ys h)
  where
    by : (b : Bool) → list_any p (xs ++ ys) ≡ true → (b || list_any p (xs ++ ys)) ≡ true
    by true g = refl
    by false g = g

abbrev conn_in : Cause → ℕ → ℕ
conn_in (routes conn) other = conn
conn_in (unjoins conn) other = conn
conn_in (gets conn) other = conn
conn_in c other = other

abbrev first_said : Said → List Said → Said
first_said x [] = x
first_said x (y ∷ rest) = y

abbrev first_letter : Letter → List Letter → Letter
first_letter x [] = x
first_letter x (y ∷ rest) = y

is_it_here : (st : Standing) → (st ≡ here) ⊎ (st ≡ here → ⊥)
is_it_here here = inl refl
is_it_here stopped = inr (λ h. cc)
is_it_here away = inr (λ h. cc)

not_here_owed : (front : List Act) (act : Act) (es : List Entry) (count : ℕ) (e : End) (st : Standing) → (st ≡ here → ⊥) → Behind front act (map writes es) → up_at front act es count e st
not_here_owed front act es count e here n b = absurd (n refl)
not_here_owed front act es count e stopped n b = b
not_here_owed front act es count e away n b = b

goes_state : (run : List Act) (w : World) (free next : Option ℕ) (d : Done) (conn count : ℕ) (left : Work) (b : BusTakes w d) → Front run w free → Front (run ++ map writes d.entries) d.world next → UpBegun w → GoesUp w conn count (routes b.conn) left
    → Now run w (Some (moving_up conn count)) → State (run ++ map writes d.entries) d.world next (Some left)
goes_state run w free next d conn count left b f after begun_is g n =
    subst (λ l. State (run ++ map writes d.entries) d.world next (Some l)) (sym left_now)
    (went_on run d.entries w d.world next (Some (moving_up conn count)) (Some (moving_up b.conn (count - lacks))) n
    (subst (λ o. up_owed n.front n.act (n.es ++ d.entries) (count - lacks) o) (sym there) (by (is_it_here x.standing))))
  where
    who : Party
    who = b.e.who

    same : b.conn ≡ conn
    same = ap (λ c. conn_in c conn) g.cause_is

    its_end : g.e ≡ b.e
    its_end = same_some g.e b.e (sym g.there ∙ ap (end_at w.ends) (sym same) ∙ b.is_here.there)

    its_first : g.said ≡ b.said
    its_first = ap (first_said g.said) (sym g.link ∙ ap (λ (y : End). y.up) its_end ∙ b.link)

    lacks : ℕ
    lacks = size b.said.message - b.e.up_moved

    missing_is : size g.said.message - g.e.up_moved ≡ lacks
    missing_is = ap₂ (λ (m : Said) (y : End). size m.message - y.up_moved) its_first its_end

    enough : lacks ≤ count
    enough = subst (λ k. k ≤ count) missing_is g.enough

    left_now : left ≡ moving_up b.conn (count - lacks)
    left_now = g.left_is ∙ ap₂ (λ k m. moving_up k (count - m)) (sym same) missing_is

    known : (y : End) × (end_at d.world.ends b.conn ≡ Some y) × SameUp (taken_up b.e) y
    known = forward SameUp (with_end b.conn taken_up w.ends) d.world.ends b.conn (taken_up b.e) (bus_took_same w d b) (at_changed taken_up w.ends b.conn b.e b.is_here.there)

    x : End
    x = known.0

    there : end_at d.world.ends b.conn ≡ Some x
    there = known.1

    alike : SameUp (taken_up b.e) x
    alike = known.2

    rest_ups : Mail
    rest_ups = map (λ (s : Said). (who, s.message)) b.rest

    begun : b.e.up_moved < size b.said.message
    begun = subst (λ l. IsBegun b.e.up_moved (map (λ (s : Said). (who, s.message)) l)) b.link (begun_is b.conn b.e b.is_here.there b.is_here.standing)

    mid : UpMid n.front n.act n.es who (up_ahead b.e count)
    mid = subst (λ st. up_at n.front n.act n.es count b.e st) b.is_here.standing (subst (λ o. up_owed n.front n.act n.es count o) (ap (end_at w.ends) (sym same) ∙ b.is_here.there) n.owed)

    rest : List Entry
    rest = map (got_of The_bus) (whole_in (0 + (count - lacks)) rest_ups)

    next_one : up_ahead b.e count ≡ filter (is_a getting) d.entries ++ rest
    next_one =
        ap (λ l. map (got_of The_bus) (whole_in (b.e.up_moved + count) (map (λ (s : Said). (who, s.message)) l))) b.link
        ∙ ap (map (got_of The_bus)) (whole_next (who, b.said.message) rest_ups b.e.up_moved count begun enough)
        ∙ ap (λ l. l ++ rest) (sym (bus_got w d b))

    further : UpMid n.front n.act (n.es ++ d.entries) who rest
    further = up_on n.front n.act n.es d.entries who (up_ahead b.e count) rest next_one mid

    by : (x.standing ≡ here) ⊎ (x.standing ≡ here → ⊥) → up_at n.front n.act (n.es ++ d.entries) (count - lacks) x x.standing
    by (inl st) =
        let s = alike.going st in
        let ahead : up_ahead x (count - lacks) ≡ rest =
        ap₂ (λ k l. map (got_of The_bus) (whole_in (k + (count - lacks)) l)) s.mark (ap₂ (λ p l. map (λ (m : Said). (p, m.message)) l) alike.whose (s.up ∙ ap rest_of b.link)) in
        subst (λ t. up_at n.front n.act (n.es ++ d.entries) (count - lacks) x t) (sym st)
        (subst (λ l. UpMid n.front n.act (n.es ++ d.entries) x.who l) (sym ahead) (subst (λ p. UpMid n.front n.act (n.es ++ d.entries) p rest) (sym alike.whose) further))
    by (inr gone) =
        not_here_owed n.front n.act (n.es ++ d.entries) (count - lacks) x x.standing gone
        (up_dropped n.front n.act (n.es ++ d.entries) who rest
        (any_behind (is_drop_of who) n.es d.entries (drop_told run (map writes d.entries) w d free next f b (entries_written d.entries) after x there alike.whose gone)) further)

stops_state : (run : List Act) (w : World) (next : Option ℕ) (d : Done) (conn count : ℕ) (left : Work) (b : BusEnds w d) → StopsUp w conn (unjoins b.conn) left → Now run w (Some (moving_up conn count))
    → State (run ++ (stopped_move w (unjoins b.conn) ++ map writes d.entries)) d.world next (Some left)
stops_state run w next d conn count left b g n =
    opened run (stopped_move w (unjoins b.conn) ++ map writes d.entries) (takes_end (party_at w.ends b.conn)) d.entries d.world next (Some left) refl refl before
    (still_owed d.world (Some left) run (takes_end (party_at w.ends b.conn)) d.entries (subst (λ l. IsStill (Some l)) (sym g.left_is) tt)
    (end_stands run (party_at w.ends b.conn) d.entries (end_none w d b)))
  where
    stands : Behind n.front n.act (map writes n.es)
    stands = subst (λ st. up_at n.front n.act n.es count g.e st) g.standing (subst (λ o. up_owed n.front n.act n.es count o) g.there n.owed)

    before : Along Behind [] run
    before = subst (Along Behind []) (sym n.is) (block_more n.front n.act n.es n.no_entry n.before stands)

moving_state : (run : List Act) (w : World) (free next : Option ℕ) (c : Cause) (d : Done) (conn count : ℕ) (left : Work) → Front run w free → Front (run ++ (stopped_move w c ++ map writes d.entries)) d.world next → UpBegun w → TurnDid w c d
    → (GoesUp w conn count c left ⊎ StopsUp w conn c left) → Now run w (Some (moving_up conn count)) → State (run ++ (stopped_move w c ++ map writes d.entries)) d.world next (Some left)
moving_state run w free next _ _ conn count left f after u (bus_took d b) (inl g) n = goes_state run w free next d conn count left b f after u g n
moving_state run w free next _ _ conn count left f after u (bus_took d b) (inr g) n = absurd (no_unjoin g.cause_is)
  where
    no_unjoin : routes b.conn ≡ unjoins conn → ⊥
    no_unjoin h = cc
moving_state run w free next _ _ conn count left f after u (bus_ended d b) (inr g) n = stops_state run w next d conn count left b g n
moving_state run w free next _ _ conn count left f after u (bus_ended d b) (inl g) n = absurd (no_route g.cause_is)
  where
    no_route : unjoins b.conn ≡ routes conn → ⊥
    no_route h = cc
moving_state run w free next _ _ conn count left f after u (told_busy turns) g n = absurd (neither g)
  where
    neither : (GoesUp w conn count (tells_busy turns) left ⊎ StopsUp w conn (tells_busy turns) left) → ⊥
    neither (inl x) = let h : tells_busy turns ≡ routes conn = x.cause_is in cc
    neither (inr x) = let h : tells_busy turns ≡ unjoins conn = x.cause_is in cc
moving_state run w free next _ _ conn count left f after u (told_quiet none) g n = absurd (neither g)
  where
    neither : (GoesUp w conn count tells_quiet left ⊎ StopsUp w conn tells_quiet left) → ⊥
    neither (inl x) = let h : tells_quiet ≡ routes conn = x.cause_is in cc
    neither (inr x) = let h : tells_quiet ≡ unjoins conn = x.cause_is in cc
moving_state run w free next _ _ conn count left f after u (registry_took d b) g n = absurd (no_gets w b.conn conn count left g)
moving_state run w free next _ _ conn count left f after u (app_took d b) g n = absurd (no_gets w b.conn conn count left g)
moving_state run w free next _ _ conn count left f after u (reader_took d b) g n = absurd (no_gets w b.conn conn count left g)

-- an end takes the next of its link
down_state : (run : List Act) (w : World) (next : Option ℕ) (c : Cause) (d : Done) (conn count : ℕ) (left : Work) → DownBegun w → TakesOne w c d → GoesDown w conn count c left
    → Now run w (Some (moving_down conn count)) → State (run ++ map writes d.entries) d.world next (Some left)
down_state run w next c d conn count left begun_is t g n =
    subst (λ l. State (run ++ map writes d.entries) d.world next (Some l)) (sym left_now)
    (went_on run d.entries w d.world next (Some (moving_down conn count)) (Some (moving_down t.conn (count - lacks))) n
    (subst (λ o. down_owed n.front n.act (n.es ++ d.entries) (count - lacks) o) (sym t.after)
    (subst (λ st. down_at n.front n.act (n.es ++ d.entries) (count - lacks) t.x st) (sym t.stays_here) further)))
  where
    same : t.conn ≡ conn
    same = ap (λ x. conn_in x conn) (sym t.cause_is ∙ g.cause_is)

    its_end : g.e ≡ t.e
    its_end = same_some g.e t.e (sym g.there ∙ ap (end_at w.ends) (sym same) ∙ t.there)

    its_first : g.letter ≡ t.letter
    its_first = ap (first_letter g.letter) (sym g.link ∙ ap (λ (y : End). y.down) its_end ∙ t.link)

    lacks : ℕ
    lacks = size t.letter.said.message - t.e.down_moved

    missing_is : size g.letter.said.message - g.e.down_moved ≡ lacks
    missing_is = ap₂ (λ (m : Letter) (y : End). size m.said.message - y.down_moved) its_first its_end

    enough : lacks ≤ count
    enough = subst (λ k. k ≤ count) missing_is g.enough

    left_now : left ≡ moving_down t.conn (count - lacks)
    left_now = g.left_is ∙ ap₂ (λ k m. moving_down k (count - m)) (sym same) missing_is

    mid : DownMid n.front n.act n.es t.e.who (down_ahead t.e count)
    mid = subst (λ st. down_at n.front n.act n.es count t.e st) t.standing (subst (λ o. down_owed n.front n.act n.es count o) (ap (end_at w.ends) (sym same) ∙ t.there) n.owed)

    rest : List Entry
    rest = map (got_of t.e.who) (whole_in (0 + (count - lacks)) (downs_of t.rest))

    ahead : down_ahead t.x (count - lacks) ≡ rest
    ahead = ap (λ p. map (got_of p) (whole_in (t.x.down_moved + (count - lacks)) (downs t.x))) t.whose ∙ ap₂ (λ k l. map (got_of t.e.who) (whole_in (k + (count - lacks)) (downs_of l))) t.mark t.left

    moved_on : DownBegun w → down_ahead t.e count ≡ filter (is_a getting) d.entries ++ rest
    moved_on all =
        let begun : t.e.down_moved < size t.letter.said.message = subst (λ l. IsBegun t.e.down_moved (downs_of l)) t.link (all t.conn t.e t.there t.standing) in
        ap (λ l. map (got_of t.e.who) (whole_in (t.e.down_moved + count) (downs_of l))) t.link
        ∙ ap (map (got_of t.e.who)) (whole_next (t.letter.from, t.letter.said.message) (downs_of t.rest) t.e.down_moved count begun enough) ∙ ap (λ l. l ++ rest) (sym t.wrote)

    further : DownMid n.front n.act (n.es ++ d.entries) t.x.who (down_ahead t.x (count - lacks))
    further =
        subst (λ l. DownMid n.front n.act (n.es ++ d.entries) t.x.who l) (sym ahead)
        (subst (λ p. DownMid n.front n.act (n.es ++ d.entries) p rest) (sym t.whose) (down_on n.front n.act n.es d.entries t.e.who (down_ahead t.e count) rest (moved_on begun_is) mid))

-- THE LINE RESTS
rested_by : (run : List Act) (w v : World) (at : Option Work) (n : Now run w at) → Behind n.front n.act (map writes n.es) → State run v None None
rested_by run w v at n b = inr (record { front = n.front; act = n.act; es = n.es; is = n.is; no_entry = n.no_entry; before = n.before; owed = b })

up_rested : (run : List Act) (w v : World) (conn count : ℕ) → UpBegun w → UpRest w v conn count → (n : Now run w (Some (moving_up conn count))) → Behind n.front n.act (map writes n.es)
up_rested run w v conn count begun_is (goes_on e said rest there standing link less same) n =
    let mid : UpMid n.front n.act n.es e.who (up_ahead e count) = subst (λ st. up_at n.front n.act n.es count e st) standing (subst (λ o. up_owed n.front n.act n.es count o) there n.owed) in
    let begun : e.up_moved < size said.message = subst (λ l. IsBegun e.up_moved (map (λ (s : Said). (e.who, s.message)) l)) link (begun_is conn e there standing) in
    up_through n.front n.act n.es e.who (up_ahead e count)
    (ap (λ l. map (got_of The_bus) (whole_in (e.up_moved + count) (map (λ (s : Said). (e.who, s.message)) l))) link
    ∙ ap (map (got_of The_bus)) (whole_less (e.who, said.message) (map (λ (s : Said). (e.who, s.message)) rest) e.up_moved count begun less)) mid
up_rested run w v conn count begun_is (stays same none) n = by (end_at w.ends conn) refl n.owed
  where
    at : (e : End) → end_at w.ends conn ≡ Some e → (st : Standing) → e.standing ≡ st → up_at n.front n.act n.es count e st → Behind n.front n.act (map writes n.es)
    at e h here s x = up_through n.front n.act n.es e.who (up_ahead e count) (ap (λ l. map (got_of The_bus) (whole_in (e.up_moved + count) (map (λ (m : Said). (e.who, m.message)) l))) (none e h s)) x
    at e h stopped s x = x
    at e h away s x = x

    by : (o : Option End) → end_at w.ends conn ≡ o → up_owed n.front n.act n.es count o → Behind n.front n.act (map writes n.es)
    by None h x = x
    by (Some e) h x = at e h e.standing refl x

down_rested : (run : List Act) (w v : World) (conn count : ℕ) → DownBegun w → DownRest w v conn count → (n : Now run w (Some (moving_down conn count))) → Behind n.front n.act (map writes n.es)
down_rested run w v conn count begun_is (goes_on e letter rest there standing link less same) n =
    let begun : e.down_moved < size letter.said.message = subst (λ l. IsBegun e.down_moved (downs_of l)) link (begun_is conn e there standing) in
    down_through n.front n.act n.es e.who (down_ahead e count)
    (ap (λ l. map (got_of e.who) (whole_in (e.down_moved + count) (downs_of l))) link
    ∙ ap (map (got_of e.who)) (whole_less (letter.from, letter.said.message) (downs_of rest) e.down_moved count begun less))
    (subst (λ st. down_at n.front n.act n.es count e st) standing (subst (λ o. down_owed n.front n.act n.es count o) there n.owed))
down_rested run w v conn count begun_is (stays same none) n = by (end_at w.ends conn) refl n.owed
  where
    at : (e : End) → end_at w.ends conn ≡ Some e → (st : Standing) → e.standing ≡ st → down_at n.front n.act n.es count e st → Behind n.front n.act (map writes n.es)
    at e h here s x = down_through n.front n.act n.es e.who (down_ahead e count) (ap (λ l. map (got_of e.who) (whole_in (e.down_moved + count) (downs_of l))) (none e h s)) x
    at e h stopped s x = x
    at e h away s x = x

    by : (o : Option End) → end_at w.ends conn ≡ o → down_owed n.front n.act n.es count o → Behind n.front n.act (map writes n.es)
    by None h x = x
    by (Some e) h x = at e h e.standing refl x

rested_state : (run : List Act) (w v : World) (free : Option ℕ) (work : Work) → UpBegun w → DownBegun w → next_of w work ≡ rests v → State run w free (Some work) → State run v None None
rested_state run w v free resting u d h (inl none) = inl (none.0, tt, refl)
rested_state run w v free (moving_up conn count) u d h (inl none) = absurd none.1
rested_state run w v free (moving_down conn count) u d h (inl none) = absurd none.1
rested_state run w v free (turning count left) u d h (inl none) = absurd none.1
rested_state run w v free draining u d h (inl none) = absurd none.1
rested_state run w v free (doing c) u d h (inl none) = absurd none.1
rested_state run w v free (moving_up conn count) u d h (inr n) = rested_by run w v (Some (moving_up conn count)) n (up_rested run w v conn count u (up_rests w v conn count h) n)
rested_state run w v free (moving_down conn count) u d h (inr n) = rested_by run w v (Some (moving_down conn count)) n (down_rested run w v conn count d (down_rests w v conn count h) n)
rested_state run w v free (turning count left) u d h (inr n) = rested_by run w v (Some (turning count left)) n n.owed
rested_state run w v free draining u d h (inr n) = rested_by run w v (Some draining) n n.owed
rested_state run w v free resting u d h (inr n) = rested_by run w v (Some resting) n n.owed
rested_state run w v free (doing c) u d h (inr n) = absurd (none_rests w v c h)

-- A READER'S OWN CALL
pub record SameDown (e d : End) : Type 0 where
  pub whose : d.who ≡ e.who
  pub standing : d.standing ≡ e.standing
  pub down : d.down ≡ e.down
  pub mark : d.down_moved ≡ e.down_moved

pub same_down : IsOrder SameDown
same_down = record {
  same = λ e. record { whose = refl; standing = refl; down = refl; mark = refl };
  both = λ e d c f g. record { whose = g.whose ∙ f.whose; standing = g.standing ∙ f.standing; down = g.down ∙ f.down; mark = g.mark ∙ f.mark };
}

pub asks_down : (m : Envelope) (question : Question) (e : End) → SameDown e (asks_at m question e)
asks_down m question e = by e.role
  where
    by : (role : Role) → SameDown e (asks_as role m question e)
    by (a_reader h) = record { whose = refl; standing = refl; down = refl; mark = refl }
    by (the_registry s) = record { whose = refl; standing = refl; down = refl; mark = refl }
    by (an_application s) = record { whose = refl; standing = refl; down = refl; mark = refl }

down_alike : (front : List Act) (act : Act) (es : List Entry) (count : ℕ) (e d : End) → SameDown e d → down_at front act es count e e.standing → down_at front act es count d d.standing
down_alike front act es count e d s x = by e.standing x d.standing s.standing
  where
    ahead : down_ahead d count ≡ down_ahead e count
    ahead = ap (λ p. map (got_of p) (whole_in (d.down_moved + count) (downs d))) s.whose ∙ ap₂ (λ k l. map (got_of e.who) (whole_in (k + count) (downs_of l))) s.mark s.down

    turned : (st : Standing) → down_at front act es count e st → down_at front act es count d st
    turned here m = subst (λ l. DownMid front act es d.who l) (sym ahead) (subst (λ p. DownMid front act es p (down_ahead e count)) (sym s.whose) m)
    turned stopped m = m
    turned away m = m

    by : (st : Standing) → down_at front act es count e st → (su : Standing) → su ≡ st → down_at front act es count d su
    by st m su same = subst (λ t. down_at front act es count d t) (sym same) (turned st m)

more_down : (front : List Act) (act : Act) (es ys : List Entry) (count : ℕ) (o : Option End) → AllByRecursion NoGot ys → down_owed front act es count o → down_owed front act (es ++ ys) count o
more_down front act es ys count None a x = stands_more front act es ys a x
more_down front act es ys count (Some e) a x = at e.standing x
  where
    at : (st : Standing) → down_at front act es count e st → down_at front act (es ++ ys) count e st
    at here m = down_on front act es ys e.who (down_ahead e count) (down_ahead e count) (ap (λ l. l ++ down_ahead e count) (sym (none_got ys a))) m
    at stopped m = stands_more front act es ys a m
    at away m = stands_more front act es ys a m

asked_owed : (w v : World) (conn : ℕ) (front : List Act) (act : Act) (es : List Entry) (count : ℕ) → Over SameDown w.ends v.ends → down_owed front act es count (end_at w.ends conn) → down_owed front act es count (end_at v.ends conn)
asked_owed w v conn front act es count o x = by (end_at w.ends conn) refl x (end_at v.ends conn) refl
  where
    by : (p : Option End) → end_at w.ends conn ≡ p → down_owed front act es count p → (q : Option End) → end_at v.ends conn ≡ q → down_owed front act es count q
    by None h m None g = m
    by (Some e) h m None g = let k = forward SameDown w.ends v.ends conn e o h in absurd (no_none k.0 (sym g ∙ k.1))
    by None h m (Some d) g = let k = o.back conn d g in absurd (no_none k.0 (sym h ∙ k.1))
    by (Some e) h m (Some d) g =
        let k = o.back conn d g in
        let same : k.0 ≡ e = same_some k.0 e (sym k.1 ∙ h) in
        down_alike front act es count e d (subst (λ y. SameDown y d) same k.2) m

asked_state : (run : List Act) (w v : World) (conn : ℕ) (at : Option Work) (ys : List Entry) → AllByRecursion NoGot ys → Over SameDown w.ends v.ends → NotUp at → State run w (Some conn) at → State (run ++ map writes ys) v None at
asked_state run w v conn at ys a o n (inl none) = absurd (no_none conn (sym none.2))
asked_state run w v conn at ys a o n (inr m) = went_on run ys w v None at at m (by at n m.owed)
  where
    by : (at : Option Work) → NotUp at → Owed w at m.front m.act m.es → Owed v at m.front m.act (m.es ++ ys)
    by None n x = stands_more m.front m.act m.es ys a x
    by (Some (moving_up k count)) n x = absurd n
    by (Some (moving_down k count)) n x = asked_owed w v k m.front m.act (m.es ++ ys) count o (more_down m.front m.act m.es ys count (end_at w.ends k) a x)
    by (Some (turning count left)) n x = stands_more m.front m.act m.es ys a x
    by (Some draining) n x = stands_more m.front m.act m.es ys a x
    by (Some resting) n x = stands_more m.front m.act m.es ys a x
    by (Some (doing c)) n x = stands_more m.front m.act m.es ys a x

-- ALONG A RUN
abbrev pub NotDown : Option Work → Type 0
NotDown (Some (moving_down conn count)) = ⊥
NotDown at = Unit {0}

-- what is to be known of links from the bus
pub record Knows : Type 0 where
  pub begun : (run : List Act) (w : World) (free : Option ℕ) (at : Option Work) → Ran run w free at → Lives (entries_in run) → DownBegun w
  pub is : (run : List Act) (w : World) (free : Option ℕ) (at : Option Work) → Ran run w free at → Lives (entries_in run) → NotDown at → DownIs run w
  pub line : (run : List Act) (w : World) (line : Line) → IsBareLine line → Ran run w None None → Lives (entries_in run) → DownIs (run ++ begins_line line ∷ []) w

now_of : (run : List Act) (w : World) (free : Option ℕ) (work : Work) → (IsIdle (Some work) → ⊥) → State run w free (Some work) → Now run w (Some work)
now_of run w free work n (inl none) = absurd (n none.1)
now_of run w free work n (inr s) = s

pub no_route : (k j : ℕ) → routes k ≡ gets j → ⊥
no_route k j h = cc

pub no_unjoin : (k j : ℕ) → unjoins k ≡ gets j → ⊥
no_unjoin k j h = cc

pub no_busy : (n j : ℕ) → tells_busy n ≡ gets j → ⊥
no_busy n j h = cc

pub no_quiet : (j : ℕ) → tells_quiet ≡ gets j → ⊥
no_quiet j h = cc

module _ (knows : Knows) where
  caused_state : (run : List Act) (w : World) (free : Option ℕ) (work left : Work) (c : Cause) → Ran run w free (Some work) → Front run w free → Front (run ++ (moves_for w work c ++ map writes (does w c).entries)) (does w c).world (freed c)
      → Lives (entries_in run) → IsBare work → next_of w work ≡ cause c w left → TurnDid w c (does w c) → State run w free (Some work)
      → State (run ++ (moves_for w work c ++ map writes (does w c).entries)) (does w c).world (freed c) (Some left)
  caused_state run w free (turning count n) left c r f after live b is t s =
      let still : IsStill (Some left) = turning_still left (turns_leave w count n c left is) in
      turn_state run w free (freed c) (Some (turning count n)) left (closed run w free (Some (turning count n)) tt s) (up_is run w free (Some (turning count n)) f tt (up_tied run w free (Some (turning count n)) r live))
      (knows.is run w free (Some (turning count n)) r live tt) still c (does w c) t tt (now_of run w free (turning count n) (λ x. x) s)
  caused_state run w free draining left c r f after live b is t s =
      let still : IsStill (Some left) = turning_still left (drain_leaves w c left is) in
      turn_state run w free (freed c) (Some draining) left (closed run w free (Some draining) tt s) (up_is run w free (Some draining) f tt (up_tied run w free (Some draining) r live))
      (knows.is run w free (Some draining) r live tt) still c (does w c) t tt (now_of run w free draining (λ x. x) s)
  caused_state run w free (moving_up conn count) left c r f after live b is t s =
      moving_state run w free (freed c) c (does w c) conn count left f after (λ k e h st. (up_tied run w free (Some (moving_up conn count)) r live k e h st).begun) t (up_goes w conn count c left is)
      (now_of run w free (moving_up conn count) (λ x. x) s)
  caused_state run w free (moving_down conn count) left c r f after live b is t s =
      let g : GoesDown w conn count c left = down_goes w conn count c left is in
      down_state run w (freed c) c (does w c) conn count left (knows.begun run w free (Some (moving_down conn count)) r live)
      (takes_one w c (does w c) t (λ x h. no_route x.conn conn (sym h ∙ g.cause_is)) (λ x h. no_unjoin x.conn conn (sym h ∙ g.cause_is)) (λ n h. no_busy n conn (sym h ∙ g.cause_is)) (λ h. no_quiet conn (sym h ∙ g.cause_is))) g
      (now_of run w free (moving_down conn count) (λ x. x) s)
  caused_state run w free resting left c r f after live b is t s = absurd (no_rest_cause w c left is)
  caused_state run w free (doing x) left c r f after live b is t s = absurd b

  pub taken_along : (run : List Act) (w : World) (free : Option ℕ) (at : Option Work) → Ran run w free at → Lives (entries_in run) → State run w free at
  taken_along _ _ _ _ nothing_yet live = inl (refl, tt, refl)
  taken_along _ _ _ _ (did run w line c r ok can is a) live =
      let before : Lives (entries_in run) = lived_before run (begins_line line ∷ map writes (does w c).entries) live in
      let l : LineDid w line (does w c) = line_did w line c (shape_along run w None None r) ok can a is in
      opened run (begins_line line ∷ map writes (does w c).entries) (begins_line line) (does w c).entries (does w c).world (freed c) (Some resting) refl refl (closed run w None None tt (taken_along run w None None r before))
      (line_stands run line (does w c).entries (line_all NoGot lines_none w line (does w c) l))
  taken_along _ _ _ _ (began run w line r ok can b) live =
      let before : Lives (entries_in run) = lived_before run (begins_line line ∷ line_moves w (work_of w line)) live in
      begun_state run w line (closed run w None None tt (taken_along run w None None r before)) (up_is run w None None (front_of run w None None r before) tt (up_tied run w None None r before))
      (knows.line run w line (bare_line w line ok b) r before) (work_of w line) b
  taken_along _ _ _ _ (caused run w free work left c r is b a) live =
      let before : Lives (entries_in run) = lived_before run (moves_for w work c ++ map writes (does w c).entries) live in
      caused_state run w free work left c r (front_of run w free (Some work) r before)
      (front_of (run ++ (moves_for w work c ++ map writes (does w c).entries)) (does w c).world (freed c) (Some left) (caused run w free work left c r is b a) live) before b is
      (turn_did w c (shape_along run w free (Some work) r) (bare_quiet w work left c b is) a) (taken_along run w free (Some work) r before)
  taken_along _ _ _ _ (rested run w v free work r is m well) live =
      rested_state run w v free work (λ k e h st. (up_tied run w free (Some work) r live k e h st).begun) (knows.begun run w free (Some work) r live) is (taken_along run w free (Some work) r live)
  taken_along _ _ _ _ (asked run w conn q m question work r a) live =
      let before : Lives (entries_in run) = lived_before run (writes (sent (Reader q) m) ∷ []) live in
      asked_state run w (at_end w conn (asks_at m question)) conn work (sent (Reader q) m ∷ []) (refl, tt) (over_with SameDown same_down (asks_at m question) (asks_down m question) conn w.ends)
      (free_down run w (Some conn) work r conn refl) (taken_along run w (Some conn) work r before)

  pub taken_so : (run : List Act) (w : World) → Ran run w None None → Lives (entries_in run) → Along Behind [] run
  taken_so run w r live = closed run w None None tt (taken_along run w None None r live)
