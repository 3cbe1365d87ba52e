-- THE BUS of a run: its state is what its own definitions make of what it takes, and its messages stand directly behind that.
use Rattle.std.proofs.Common.{◌≡◌, ◌⊎◌, inl, inr, ℕ, zero, suc, ◌+◌, ◌<◌, ◌≤◌, Bool, true, false, List, [], ◌∷◌, ◌++◌, length, map, Option, None, Some, refl, sym, ap, ap₂, ◌∙◌, subst, arith, is_some}
use Rattle.std.specs.Prelude.{◌||◌, not, filter, filter_map, position, option_map, get_or, if◌then◌else◌}
use Rattle.std.specs.List.{AllByRecursion, list_any}
use Rattle.std.proofs.lemmas.Bool.{ltb-false}
use Rattle.std.proofs.lemmas.List.{append-nil, append_assoc}
use Rattle.std.proofs.lemmas.Option.{slice_get-get_or}
use Rattle.atspi_script_lines.specs.declared.limits.TheConstants.{QUOTA_MOST}
use Rattle.atspi_script_lines.specs.declared.line.Line.{Line}
use Rattle.atspi_script_lines.specs.declared.line.Party.{Party}
use Rattle.atspi_script_lines.specs.declared.line.Party.TheVariants.{Bus as The_bus, Registry, App, Reader}
use Rattle.atspi_message.specs.Envelope.{Envelope}
use Rattle.atspi_match.specs.declared.routing.closing.Why.{Why}
use Rattle.atspi_match.specs.declared.routing.closing.Why.TheVariants.{NotHello, Quota}
use Rattle.atspi_match.specs.declared.routing.closing.Closing.{Closing}
use Rattle.atspi_match.specs.routing.BusState.{BusState, unique_of}
use Rattle.atspi_match.specs.routing.Steps.{BusStep, is_hello, bus_takes, bus_leaves, bus_joins}
use Rattle.atspi_match.specs.routing.Queues.{own_of}
use Rattle.atspi_protocol.specs.registering.Steps.{registry_takes}
use Rattle.atspi_protocol.specs.exporting.Exporter.{begins}
use Rattle.atspi_protocol.specs.exporting.Starting.{starts}
use Rattle.atspi_protocol.specs.exporting.Taking.{app_takes}
use Rattle.atspi_protocol.specs.following.Calls.{asking}
use Rattle.atspi_protocol.specs.declared.following.question.Question.TheVariants.{Hello}
use Rattle.atspi_trace.specs.Rules.{rule_in}
use Rattle.atspi_trace.specs.Entry.{Entry, started, sent, got, dropped, busy, quiet}
use Rattle.atspi_trace.specs.World.{Standing, here, stopped, away, Said, End, World, first_world}
use Rattle.atspi_trace.specs.Ends.{same_party, number_of, whose, party_at, end_at, with_end, taken_up, app_count, reader_count}
use Rattle.atspi_trace.specs.Carrying.{Carried, letter_of, stepped, left, one_closed, settled, with_name, sent_by_bus, is_upto, dropped_if, bus_entries}
use Rattle.atspi_trace.specs.Causes.{Cause, renews, starts_app, starts_reader, edits, calls, swaps_face, exits, shows, tells_busy, tells_quiet, routes, unjoins, gets, Done, only, does, did as did_so}
use Rattle.atspi_trace.specs.Work.{Work, resting, doing, moving_up, moving_down, turning, draining, cause, next_of, work_of}
use Rattle.atspi_trace.specs.Due.{freed}
use Rattle.atspi_headline.specs.Words.{Act, begins_line, moves_bytes, takes_end, writes, entries_in, of_bus, is_a, writes_a, Along, gathered, next_of as next_entries, AreDue, is_same, start_in, ends, place_of, with_serial}
use Rattle.atspi_headline.specs.Links.{first_state, idle, bus_took as bus_did_take, bus_left, bus_does, state_after}
use Rattle.atspi_headline.specs.Headline.{said_in, bus_words_due}
use Rattle.atspi_trace_laws.specs.laws.Words.{messages, stops_it}
use Rattle.atspi_trace_laws.proofs.OfOrder.Parties.{no_none, same_some, false_true, all_back}
use Rattle.atspi_trace_laws.proofs.OfOrder.Growing.{Shaped, Nothing, And}
use Rattle.atspi_trace_laws.proofs.OfOrder.Shape.{Shape}
use Rattle.atspi_trace_laws.proofs.OfOrder.Allowed.{Moves, IsBare}
use Rattle.atspi_trace_laws.proofs.OfOrder.Effects.{received, BusTakes, BusEnds}
use Rattle.atspi_trace_laws.proofs.OfOrder.Shaped.{bus_takes_over, bus_ends_over}
use Rattle.atspi_trace_laws.proofs.OfOrder.Closed.{IsTold}
use Rattle.atspi_trace_laws.proofs.OfOrder.Told.{Tells, told_keeps}
use Rattle.atspi_trace_laws.proofs.OfOrder.Each.{all_map}
use Rattle.atspi_trace_laws.proofs.OfHeard.Quiet.{heard_all}
use Rattle.atspi_trace_laws.proofs.OfOwn.Counting.{is_quota}
use Rattle.atspi_trace_laws.proofs.OfOwn.Doing.{doing_of}
use Rattle.atspi_trace_laws.proofs.OfOwn.Writing.{Lives}
use Rattle.atspi_trace_laws.proofs.OfOwn.LawOwn.{Owned, own_keeps}
use Rattle.atspi_trace_laws.proofs.OfNames.Places.{first_at, position_is}
use Rattle.atspi_trace_laws.proofs.OfQuiet.Hello.{ToldForRoom, Greets, takes_settling, ends_settling}
use Rattle.atspi_trace_laws.proofs.OfQuiet.Here.{Greeted, Present, present_keeps}
use Rattle.atspi_trace_laws.proofs.OfTaken.Said.{IsSaid}
use Rattle.atspi_trace_laws.proofs.OfTaken.LawTaken.{Taken, Under as Under_taken, taken_keeps}
use Rattle.atspi_trace_laws.proofs.OfLinks.LawLinks.{no_bus}
use Rattle.atspi_headline_laws.proofs.Ran.{Ran, nothing_yet, did, began, caused, rested, asked, up_move, down_move, at_known, turn_move, stopped_move, moves_for, line_moves}
use Rattle.atspi_headline_laws.proofs.Making.{entries_more, entries_written, moves_are}
use Rattle.atspi_headline_laws.proofs.Keeping.{shape_along}
use Rattle.atspi_headline_laws.proofs.Numbering.{IsPlain}
use Rattle.atspi_headline_laws.proofs.Dues.{IsOwed, Still, unless, due_more, still_more}
use Rattle.atspi_headline_laws.proofs.Joining.{parties, EndsAre, turn_parties, ends_along}
use Rattle.atspi_headline_laws.proofs.Acting.{LineDid, line_did, renewed, app_began, reader_began, edited_app, called_app, swapped, app_stopped, reader_stopped, showed, TurnDid, turn_did, bare_quiet, told_busy, told_quiet, bus_took, bus_ended, registry_took, app_took, reader_took}
use Rattle.atspi_headline_laws.proofs.Sorting.{AppSorts, app_all, new_number}
use Rattle.atspi_headline_laws.proofs.Growing.{Front, front_of, front_moved, lived_before}
use Rattle.atspi_headline_laws.proofs.Handing.{shape, with_is}
use Rattle.atspi_headline_laws.proofs.Registering.{Stays, gathered_more, gathered_stays}
use Rattle.atspi_headline_links.proofs.Moved.{chosen_more, itself, another}
use Rattle.atspi_headline_links.proofs.Known.{any_both}
use Rattle.atspi_headline_links.proofs.Nexts.{down_goes}
use Rattle.atspi_headline_links.proofs.Starting.{first_is}
use Rattle.atspi_headline_links.proofs.Courses.{NoRegistry, own_is, Says, takes_says, first_closing, first_words, course, Told, all_so_far, course_is, leaves_says}
use Rattle.atspi_headline_links.proofs.Ended.{Under, Ended, ended_keep, took_within, ended_within}

-- WHERE A PARTY STANDS among the ends
first_place : (es : List End) (k : ℕ) (e : End) → end_at es k ≡ Some e → ((j : ℕ) (d : End) → end_at es j ≡ Some d → d.who ≡ e.who → j ≡ k) → first_at (is_same e.who) (parties es) ≡ Some k
first_place [] k e h one = absurd (no_none e h)
first_place (x ∷ xs) zero e h one =
    let same : x ≡ e = same_some x e h in
    ap (λ b. if b then Some 0 else option_map suc (first_at (is_same e.who) (parties xs))) (ap (λ (y : End). is_same e.who y.who) same ∙ itself e.who)
first_place (x ∷ xs) (suc k) e h one =
    ap (λ b. if b then Some 0 else option_map suc (first_at (is_same e.who) (parties xs))) (another e.who x.who (λ same. early (one 0 x refl (sym same))))
    ∙ ap (option_map suc) (first_place xs k e h (λ j d g s. less j (one (suc j) d g s)))
  where
    early : 0 ≡ suc k → ⊥
    early g = omega (arith, g)

    less : (j : ℕ) → suc j ≡ suc k → j ≡ k
    less j g = omega (arith, g)

pub place_at : (w : World) (k : ℕ) (e : End) → Shape w → end_at w.ends k ≡ Some e → position (is_same e.who) (parties w.ends) ≡ Some k
place_at w k e s h = position_is (is_same e.who) (parties w.ends) ∙ first_place w.ends k e h (λ j d g same. s.one j k d e g h same)

-- THE BUS SO FAR
pub record BusSo (run : List Act) (s : BusState) : Type 0 where
  pub is : gathered state_after first_state [] run ≡ s
  pub words : AreDue false of_bus bus_words_due run

-- acts by which it does nothing
pub record Idle (act : Act) : Type 0 where
  pub none : writes_a of_bus act ≡ false
  pub does_nothing : (before : List Act) (s : BusState) → bus_does before s act ≡ idle s

idle_still : (act : Act) → Idle act → Still of_bus bus_words_due act
idle_still act i = record {
  none = i.none;
  nothing = λ before. ap (λ (x : BusStep). map (sent The_bus) (filter_map said_in x.moves)) (i.does_nothing before (gathered state_after first_state [] before));
}

idle_stays : (act : Act) → Idle act → Stays state_after act
idle_stays act i before s = ap (λ (x : BusStep). x.state) (i.does_nothing before s)

pub idle_step : (run acts : List Act) (s : BusState) → AllByRecursion Idle acts → BusSo run s → BusSo (run ++ acts) s
idle_step run acts s a b = record {
  is = gathered_more state_after first_state [] run acts ∙ gathered_stays state_after (gathered state_after first_state [] run) run acts (all_map Idle (Stays state_after) acts idle_stays a) ∙ b.is;
  words = still_more of_bus bus_words_due run acts (all_map Idle (Still of_bus bus_words_due) acts idle_still a) b.words;
}

pub idle_writes : (es : List Entry) → AllByRecursion (λ entry. Idle (writes entry)) es → AllByRecursion Idle (map writes es)
idle_writes [] a = tt
idle_writes (e ∷ es) a = (a.0, idle_writes es a.1)

-- an act behind which it says what it does
no_next : (act : Act) (ys : List Act) → writes_a of_bus act ≡ false → next_entries (is_a of_bus) (act ∷ ys) ≡ []
no_next (writes entry) ys h = ap (λ b. if b then entry ∷ next_entries (is_a of_bus) ys else []) h
no_next (begins_line line) ys h = refl
no_next (moves_bytes who up count) ys h = refl
no_next (takes_end who) ys h = refl

words_next : (es : List Envelope) → next_entries (is_a of_bus) (map writes (sent_by_bus es)) ≡ sent_by_bus es
words_next [] = refl
words_next (e ∷ es) = ap (λ l. sent The_bus e ∷ l) (words_next es)

words_along : (before : List Act) (es : List Envelope) → Along (IsOwed of_bus bus_words_due) before (map writes (sent_by_bus es))
words_along before [] = tt
words_along before (e ∷ es) = (tt, words_along (before ++ writes (sent The_bus e) ∷ []) es)

words_stay : (es : List Envelope) → AllByRecursion (Stays state_after) (map writes (sent_by_bus es))
words_stay [] = tt
words_stay (e ∷ es) = ((λ before s. refl), words_stay es)

pub spoken_step : (front : List Act) (act : Act) (s : BusState) (step : BusStep) → writes_a of_bus act ≡ false → bus_does front s act ≡ step → BusSo front s → BusSo (front ++ act ∷ map writes (sent_by_bus (own_of step.moves))) step.state
spoken_step front act s step none does_so b = record {
  is = gathered_more state_after first_state [] front (act ∷ map writes (sent_by_bus (own_of step.moves)))
      ∙ gathered_stays state_after (state_after front (gathered state_after first_state [] front) act) (front ++ act ∷ []) (map writes (sent_by_bus (own_of step.moves))) (words_stay (own_of step.moves))
      ∙ ap (λ g. (bus_does front g act).state) b.is ∙ ap (λ (x : BusStep). x.state) does_so;
  words = due_more of_bus bus_words_due front (act ∷ map writes (sent_by_bus (own_of step.moves))) (no_next act (map writes (sent_by_bus (own_of step.moves))) none) b.words (
    unless (writes_a of_bus act) (next_entries (is_a of_bus) (map writes (sent_by_bus (own_of step.moves))) ≡ bus_words_due front act) (words_next (own_of step.moves) ∙ sym due_is),
    words_along (front ++ act ∷ []) (own_of step.moves),
  );
}
  where
    due_is : bus_words_due front act ≡ sent_by_bus (own_of step.moves)
    due_is =
        ap (λ g. map (sent The_bus) (filter_map said_in (bus_does front g act).moves)) b.is ∙ ap (λ (x : BusStep). map (sent The_bus) (filter_map said_in x.moves)) does_so
        ∙ ap (map (sent The_bus)) (own_is step.moves)

-- THE COURSE of closings
pub record Good (all : List End) (c : Closing) : Type 0 where
  pub room : is_quota c.why ≡ true
  pub place : position (is_same (party_at all c.conn)) (parties all) ≡ Some c.conn
  pub other : NoRegistry all c

pub no_starts : (es : List Envelope) → filter_map start_in (map writes (sent_by_bus es)) ≡ []
no_starts [] = refl
no_starts (e ∷ es) = no_starts es

pub same_ends : (front acts : List Act) → filter_map start_in acts ≡ [] → ends (front ++ acts) ≡ ends front
same_ends front acts none = ap (λ l. Registry ∷ l) (chosen_more start_in front acts ∙ ap (λ l. filter_map start_in front ++ l) none ∙ append-nil (filter_map start_in front))

pub drop_does : (before : List Act) (s : BusState) (who : Party) (queued len : ℕ) → same_party who Registry ≡ false → bus_does before s (writes (dropped who queued len)) ≡ bus_left s (place_of before who)
drop_does before s The_bus queued len h = refl
drop_does before s (App a) queued len h = refl
drop_does before s (Reader r) queued len h = refl
drop_does before s Registry queued len h = absurd (false_true (sym h))

map_both : (xs ys : List Entry) → map writes (xs ++ ys) ≡ map writes xs ++ map writes ys
map_both [] ys = refl
map_both (x ∷ xs) ys = ap (λ l. writes x ∷ l) (map_both xs ys)

abbrev So : List Act → List End → BusState → Type 0
So run all s = BusSo run s × (ends run ≡ parties all)

pub one_step : (all : List End) (c : Carried) (due : List (ℕ × Why)) (front : List Act) → AllByRecursion (Good all) (one_closed c due).bus.closings → So front all c.bus.state → So (front ++ map writes (first_words all c due)) all (one_closed c due).bus.state
one_step all c [] front g b = subst (λ l. So l all c.bus.state) (sym (append-nil front)) b
one_step all c (first ∷ rest) front g b = by first.1 refl mine.room
  where
    mine : Good all (first_closing c first)
    mine = (all_back (Good all) c.bus.closings (first_closing c first ∷ []) g).0

    who : Party
    who = party_at all first.0

    step : BusStep
    step = bus_leaves c.bus.state first.0

    place : place_of front who ≡ Some first.0
    place = ap (position (is_same who)) b.1 ∙ mine.place

    by : (why : Why) → first.1 ≡ why → is_quota why ≡ true → So (front ++ map writes (dropped_if who first.1 ++ sent_by_bus (own_of step.moves))) all step.state
    by NotHello h q = absurd (false_true q)
    by (Quota queued len) h q =
        subst (λ l. So (front ++ map writes (l ++ sent_by_bus (own_of step.moves))) all step.state) (sym (ap (dropped_if who) h)) (
          spoken_step front (writes (dropped who queued len)) c.bus.state step refl (drop_does front c.bus.state who queued len mine.other ∙ ap (bus_left c.bus.state) place) b.0,
          same_ends front (writes (dropped who queued len) ∷ map writes (sent_by_bus (own_of step.moves))) (no_starts (own_of step.moves)) ∙ b.1,
        )

pub course_step : (all : List End) (n : ℕ) (c : Carried) (front : List Act) → AllByRecursion (Good all) (settled n c).bus.closings → So front all c.bus.state → So (front ++ map writes (course all n c)) all (settled n c).bus.state
course_step all zero c front g b = subst (λ l. So l all c.bus.state) (sym (append-nil front)) b
course_step all (suc n) c front g b =
    let due : List (ℕ × Why) = c.bus.waiting.due in
    let d : Carried = one_closed c due in
    let first : So (front ++ map writes (first_words all c due)) all d.bus.state = one_step all c due front (all_so_far (Good all) n d g) b in
    subst (λ l. So l all (settled n d).bus.state)
    (append_assoc front (map writes (first_words all c due)) (map writes (course all n d)) ∙ ap (λ l. front ++ l) (sym (map_both (first_words all c due) (course all n d))))
    (course_step all n d (front ++ map writes (first_words all c due)) g first)

-- NOBODY closed is the registry, which lives
or_left : (a b : Bool) → (a || b) ≡ false → a ≡ false
or_left true b h = h
or_left false b h = refl

or_right : (a b : Bool) → (a || b) ≡ false → b ≡ false
or_right true b h = absurd (false_true (sym h))
or_right false b h = h

none_closed : (all : List End) (own : List Envelope) (cs : List Closing) → AllByRecursion ToldForRoom cs → list_any (stops_it Registry) (bus_entries all own cs) ≡ false → AllByRecursion (NoRegistry all) cs
none_closed all own [] a h = tt
none_closed all own (c ∷ cs) a h = (mine, none_closed all back cs a.1 (subst (λ b. list_any (stops_it Registry) (if b then [] else bus_entries all back cs) ≡ false) mine rest))
  where
    front : List Entry
    front = sent_by_bus (filter (is_upto c.after) own)

    back : List Envelope
    back = filter (λ e. not (is_upto c.after e)) own

    who : Party
    who = party_at all c.conn

    behind : List Entry
    behind = if same_party who Registry then [] else bus_entries all back cs

    all_false : (list_any (stops_it Registry) (dropped_if who c.why) || list_any (stops_it Registry) behind) ≡ false
    all_false =
        sym (any_both (stops_it Registry) (dropped_if who c.why) behind)
        ∙ or_right (list_any (stops_it Registry) front) (list_any (stops_it Registry) (dropped_if who c.why ++ behind)) (sym (any_both (stops_it Registry) front (dropped_if who c.why ++ behind)) ∙ h)

    rest : list_any (stops_it Registry) behind ≡ false
    rest = or_right (list_any (stops_it Registry) (dropped_if who c.why)) (list_any (stops_it Registry) behind) all_false

    by : (why : Why) → is_quota why ≡ true → list_any (stops_it Registry) (dropped_if who why) ≡ false → same_party who Registry ≡ false
    by NotHello q g = absurd (false_true q)
    by (Quota queued len) q g = or_left (same_party who Registry) false g

    mine : same_party who Registry ≡ false
    mine = by c.why a.0 (or_left (list_any (stops_it Registry) (dropped_if who c.why)) (list_any (stops_it Registry) behind) all_false)

not_stopped : (es ys : List Entry) → Lives (es ++ ys) → list_any (stops_it Registry) ys ≡ false
not_stopped es ys live = or_right (list_any (stops_it Registry) es) (list_any (stops_it Registry) ys) (sym (any_both (stops_it Registry) es ys) ∙ off (list_any (stops_it Registry) (es ++ ys)) live)
  where
    off : (b : Bool) → not b ≡ true → b ≡ false
    off true h = absurd (false_true h)
    off false h = refl

end_there : (l : List End) (k : ℕ) → k < length l → (e : End) × (end_at l k ≡ Some e)
end_there [] k h = absurd (omega (arith, h))
end_there (x ∷ xs) k h = (get_or (x ∷ xs) k x, slice_get-get_or (x ∷ xs) k x h)

-- each that is closed
all_good : (v : World) (s : Shape v) (all : List End) (n : ℕ) (cs : List Closing) → v.ends ≡ all → n ≡ length all → AllByRecursion ToldForRoom cs → AllByRecursion (λ (c : Closing). Under n c.conn) cs → AllByRecursion (NoRegistry all) cs → AllByRecursion (Good all) cs
all_good v s all n [] is size a b c = tt
all_good v s all n (x ∷ xs) is size a b c =
    let e = end_there all x.conn (subst (λ k. x.conn < k) size b.0) in (
      record {
        room = a.0;
        place = ap (λ p. position (is_same p) (parties all)) (ap whose e.1) ∙ ap (λ l. position (is_same e.0.who) (parties l)) (sym is) ∙ place_at v x.conn e.0 s (ap (λ l. end_at l x.conn) is ∙ e.1);
        other = c.0;
      },
      all_good v s all n xs is size a.1 b.1 c.1,
    )

-- WHERE IT TAKES A MESSAGE
plain_role : (who : Party) (w : World) (k : ℕ) (e : End) → Shape w → end_at w.ends k ≡ Some e → e.who ≡ who → IsPlain who
plain_role The_bus w k e s h is = absurd (no_bus w k e s h is)
plain_role Registry w k e s h is = tt
plain_role (App a) w k e s h is = tt
plain_role (Reader r) w k e s h is = tt

least_one : (n : ℕ) → 8 ≤ n → 1 ≤ n
least_one n h = omega (arith, h)

next_of_bus : (front : List Act) (w : World) (free : Option ℕ) → Front front w free → 1 ≤ w.bus.state.next
next_of_bus front w free f = some (length (told_messages (entries_in front))) ((f.kept (Shaped (And (And Nothing Tells) Owned)) own_keeps).1.1.1 f.lives).next
  where
    told_messages : List Entry → List Envelope
    told_messages es = messages es The_bus

    some : (n : ℕ) → w.bus.state.next ≡ 8 + n → 1 ≤ w.bus.state.next
    some n h = omega (arith, h)

abbrev first_said : Said → List Said → Said
first_said z [] = z
first_said z (x ∷ xs) = x

module _ (front : List Act) (w : World) (free next : Option ℕ) (d : Done) (f : Front front w free) (after : Front (front ++ map writes d.entries) d.world next) (same : parties d.world.ends ≡ parties w.ends) (so : BusSo front w.bus.state) (b : BusTakes w d) where
  abbrev pub c0 : Carried
  c0 = record { bus = w.bus; ends = w.ends }

  abbrev pub step : BusStep
  step = bus_takes w.bus.state b.conn b.said.message (rule_in b.said.message)

  abbrev pub c1 : Carried
  c1 = with_name b.conn (stepped (letter_of b.e.who b.said) (record { bus = w.bus; ends = with_end b.conn taken_up w.ends }) step)

  abbrev pub times : ℕ
  times = length w.bus.state.joined

  abbrev pub taken_all : Carried
  taken_all = settled times c1

  told : IsTold w
  told = (f.kept (Shaped (And Nothing Tells)) told_keeps).1.1

  present : Greeted w
  present = (f.kept (Shaped (And (And Nothing Tells) Present)) present_keeps).1.1.0

  greets : Greets w.bus.state b.conn b.said.message
  greets = by (unique_of w.bus.state.owners b.conn) refl
    where
      by : (o : Option (List ℕ)) → unique_of w.bus.state.owners b.conn ≡ o → Greets w.bus.state b.conn b.said.message
      by (Some name) h = inl (ap is_some h)
      by None h =
          let y = present.hello b.conn b.e b.is_here.there b.is_here.standing h in
          let same_first : y.0 ≡ b.said = ap (first_said b.said) (sym y.2 ∙ b.link) in
          inr (subst (λ (m : Said). is_hello m.message ≡ true) same_first y.3)

  room : AllByRecursion ToldForRoom taken_all.bus.closings
  room = (takes_settling c0 b.conn b.e.who b.said present.due told.closings greets).told

  wrote : d.entries ≡ got The_bus b.e.who b.said.message.serial ∷ bus_entries taken_all.ends taken_all.bus.own taken_all.bus.closings
  wrote = ap (λ (x : Done). x.entries) b.is

  ends_are : d.world.ends ≡ taken_all.ends
  ends_are = ap (λ (x : Done). x.world.ends) b.is

  lively : list_any (stops_it Registry) (bus_entries taken_all.ends taken_all.bus.own taken_all.bus.closings) ≡ false
  lively =
      not_stopped (entries_in front ++ got The_bus b.e.who b.said.message.serial ∷ []) (bus_entries taken_all.ends taken_all.bus.own taken_all.bus.closings)
      (subst Lives (entries_more front (map writes d.entries) ∙ ap (λ l. entries_in front ++ l) (entries_written d.entries ∙ wrote)
      ∙ sym (append_assoc (entries_in front) (got The_bus b.e.who b.said.message.serial ∷ []) (bus_entries taken_all.ends taken_all.bus.own taken_all.bus.closings))) after.lives)

  others : AllByRecursion (NoRegistry taken_all.ends) taken_all.bus.closings
  others = none_closed taken_all.ends taken_all.bus.own taken_all.bus.closings room lively

  pub good : AllByRecursion (Good taken_all.ends) taken_all.bus.closings
  good =
      all_good d.world (shape (front ++ map writes d.entries) d.world next after) taken_all.ends (length w.ends) taken_all.bus.closings ends_are (sym (ap length (sym ends_are) ∙ (bus_takes_over w d b).size)) room
      (took_within w d told ((f.kept (Shaped (And (And Nothing Tells) Ended)) ended_keep).1.1) b).told others

  told_first : Told c1
  told_first =
      let s : Says w.bus.state.next step = takes_says w.bus.state b.conn step (doing_of w.bus.state b.conn b.said.message (rule_in b.said.message)) in
      record {
        some = both (next_of_bus front w free f) s.more;
        low = subst (λ l. AllByRecursion (λ (e : Envelope). e.serial < step.state.next) (l ++ own_of step.moves)) (sym told.own) s.low;
        early = subst (AllByRecursion (λ (x : Closing). x.after < step.state.next)) (sym told.closings) tt;
      }
    where
      both : 1 ≤ w.bus.state.next → w.bus.state.next ≤ step.state.next → 1 ≤ step.state.next
      both h g = omega (arith, h, g)

  first_entries : bus_entries taken_all.ends c1.bus.own c1.bus.closings ≡ sent_by_bus (own_of step.moves)
  first_entries = ap (bus_entries taken_all.ends c1.bus.own) told.closings ∙ ap (λ l. sent_by_bus (l ++ own_of step.moves)) told.own

  pub all_entries : d.entries ≡ (got The_bus b.e.who b.said.message.serial ∷ sent_by_bus (own_of step.moves)) ++ course taken_all.ends times c1
  all_entries = wrote ∙ ap (λ l. got The_bus b.e.who b.said.message.serial ∷ l) (course_is taken_all.ends times c1 told_first others ∙ ap (λ l. l ++ course taken_all.ends times c1) first_entries)

  pub its_place : place_of front b.e.who ≡ Some b.conn
  its_place = ap (position (is_same b.e.who)) (sym f.ends) ∙ place_at w b.conn b.e (shape front w free f) b.is_here.there

  pub its_message : with_serial front b.e.who b.said.message.serial ≡ b.said.message ∷ []
  its_message =
      let known : AllByRecursion (IsSaid (entries_in front) b.e.who) b.e.up = ((f.kept (Shaped (And Under_taken Taken)) taken_keeps).1.1.1 b.conn b.e b.is_here.there).0 in
      let first : IsSaid (entries_in front) b.e.who b.said = (subst (AllByRecursion (IsSaid (entries_in front) b.e.who)) b.link known).0 in
      with_is front w free f b.e.who b.said.message.serial b.said.message (plain_role b.e.who w b.conn b.e (shape front w free f) b.is_here.there refl) first.was

  pub took_so : BusSo (front ++ map writes d.entries) d.world.bus.state
  took_so =
      let act : Act = writes (got The_bus b.e.who b.said.message.serial) in
      let first : BusSo (front ++ act ∷ map writes (sent_by_bus (own_of step.moves))) step.state =
      spoken_step front act w.bus.state step refl (ap₂ (bus_did_take w.bus.state) its_place its_message) so in
      let all_ends : ends (front ++ act ∷ map writes (sent_by_bus (own_of step.moves))) ≡ parties taken_all.ends =
      same_ends front (act ∷ map writes (sent_by_bus (own_of step.moves))) (no_starts (own_of step.moves)) ∙ sym f.ends ∙ sym same ∙ ap parties ends_are in
      let through = course_step taken_all.ends times c1 (front ++ act ∷ map writes (sent_by_bus (own_of step.moves))) good (first, all_ends) in
      subst (BusSo (front ++ map writes d.entries)) (sym (ap (λ (x : Done). x.world.bus.state) b.is))
      (subst (λ l. BusSo l taken_all.bus.state)
      (append_assoc front (act ∷ map writes (sent_by_bus (own_of step.moves))) (map writes (course taken_all.ends times c1))
      ∙ ap (λ l. front ++ l) (sym (map_both (got The_bus b.e.who b.said.message.serial ∷ sent_by_bus (own_of step.moves)) (course taken_all.ends times c1)) ∙ ap (map writes) (sym all_entries)))
      through.0)

-- WHERE IT TAKES AN END
module _ (front : List Act) (w : World) (free next : Option ℕ) (d : Done) (f : Front front w free) (b : BusEnds w d) (after : Front (front ++ takes_end (party_at w.ends b.conn) ∷ map writes d.entries) d.world next)
    (same : parties d.world.ends ≡ parties w.ends) (so : BusSo front w.bus.state) where
  abbrev pub e0 : Carried
  e0 = record { bus = w.bus; ends = w.ends }

  abbrev pub leaving : BusStep
  leaving = bus_leaves w.bus.state b.conn

  abbrev pub e1 : Carried
  e1 = left e0 b.conn

  abbrev pub rounds : ℕ
  rounds = length w.bus.state.joined

  abbrev pub ended_all : Carried
  ended_all = settled rounds e1

  none_told : IsTold w
  none_told = (f.kept (Shaped (And Nothing Tells)) told_keeps).1.1

  for_room : AllByRecursion ToldForRoom ended_all.bus.closings
  for_room = (ends_settling e0 b.conn ((f.kept (Shaped (And (And Nothing Tells) Present)) present_keeps).1.1.0).due none_told.closings).told

  wrote_end : d.entries ≡ bus_entries ended_all.ends ended_all.bus.own ended_all.bus.closings
  wrote_end = ap (λ (x : Done). x.entries) b.is

  end_ends : d.world.ends ≡ ended_all.ends
  end_ends = ap (λ (x : Done). x.world.ends) b.is

  lives_on : list_any (stops_it Registry) (bus_entries ended_all.ends ended_all.bus.own ended_all.bus.closings) ≡ false
  lives_on =
      not_stopped (entries_in front) (bus_entries ended_all.ends ended_all.bus.own ended_all.bus.closings)
      (subst Lives (entries_more front (takes_end (party_at w.ends b.conn) ∷ map writes d.entries) ∙ ap (λ l. entries_in front ++ l) (entries_written d.entries ∙ wrote_end)) after.lives)

  no_registry : AllByRecursion (NoRegistry ended_all.ends) ended_all.bus.closings
  no_registry = none_closed ended_all.ends ended_all.bus.own ended_all.bus.closings for_room lives_on

  pub good_ends : AllByRecursion (Good ended_all.ends) ended_all.bus.closings
  good_ends =
      all_good d.world (shape (front ++ takes_end (party_at w.ends b.conn) ∷ map writes d.entries) d.world next after) ended_all.ends (length w.ends) ended_all.bus.closings end_ends
      (sym (ap length (sym end_ends) ∙ (bus_ends_over w d b).size)) for_room (ended_within w d none_told ((f.kept (Shaped (And (And Nothing Tells) Ended)) ended_keep).1.1) b).told no_registry

  told_left : Told e1
  told_left =
      let s : Says w.bus.state.next leaving = leaves_says w.bus.state b.conn in
      record {
        some = both (next_of_bus front w free f) s.more;
        low = subst (λ l. AllByRecursion (λ (x : Envelope). x.serial < leaving.state.next) (l ++ own_of leaving.moves)) (sym none_told.own) s.low;
        early = subst (AllByRecursion (λ (x : Closing). x.after < leaving.state.next)) (sym none_told.closings) tt;
      }
    where
      both : 1 ≤ w.bus.state.next → w.bus.state.next ≤ leaving.state.next → 1 ≤ leaving.state.next
      both h g = omega (arith, h, g)

  left_entries : bus_entries ended_all.ends e1.bus.own e1.bus.closings ≡ sent_by_bus (own_of leaving.moves)
  left_entries = ap (bus_entries ended_all.ends e1.bus.own) none_told.closings ∙ ap (λ l. sent_by_bus (l ++ own_of leaving.moves)) none_told.own

  pub end_entries : d.entries ≡ sent_by_bus (own_of leaving.moves) ++ course ended_all.ends rounds e1
  end_entries = wrote_end ∙ course_is ended_all.ends rounds e1 told_left no_registry ∙ ap (λ l. l ++ course ended_all.ends rounds e1) left_entries

  pub end_place : place_of front (party_at w.ends b.conn) ≡ Some b.conn
  end_place = ap (place_of front) (ap whose b.there) ∙ ap (position (is_same b.e.who)) (sym f.ends) ∙ place_at w b.conn b.e (shape front w free f) b.there

  pub ended_so : BusSo (front ++ takes_end (party_at w.ends b.conn) ∷ map writes d.entries) d.world.bus.state
  ended_so =
      let first : BusSo (front ++ takes_end (party_at w.ends b.conn) ∷ map writes (sent_by_bus (own_of leaving.moves))) leaving.state =
      spoken_step front (takes_end (party_at w.ends b.conn)) w.bus.state leaving refl (ap (bus_left w.bus.state) end_place) so in
      let all_ends : ends (front ++ takes_end (party_at w.ends b.conn) ∷ map writes (sent_by_bus (own_of leaving.moves))) ≡ parties ended_all.ends =
      same_ends front (takes_end (party_at w.ends b.conn) ∷ map writes (sent_by_bus (own_of leaving.moves))) (no_starts (own_of leaving.moves)) ∙ sym f.ends ∙ sym same ∙ ap parties end_ends in
      let through = course_step ended_all.ends rounds e1 (front ++ takes_end (party_at w.ends b.conn) ∷ map writes (sent_by_bus (own_of leaving.moves))) good_ends (first, all_ends) in
      subst (BusSo (front ++ takes_end (party_at w.ends b.conn) ∷ map writes d.entries)) (sym (ap (λ (x : Done). x.world.bus.state) b.is))
      (subst (λ l. BusSo l ended_all.bus.state)
      (append_assoc front (takes_end (party_at w.ends b.conn) ∷ map writes (sent_by_bus (own_of leaving.moves))) (map writes (course ended_all.ends rounds e1))
      ∙ ap (λ l. front ++ takes_end (party_at w.ends b.conn) ∷ l) (sym (map_both (sent_by_bus (own_of leaving.moves)) (course ended_all.ends rounds e1)) ∙ ap (map writes) (sym end_entries)))
      through.0)

-- ENTRIES by which it does nothing
pub apps_idle : AppSorts (λ entry. Idle (writes entry))
apps_idle = record {
  steps_ = λ app step. record { none = refl; does_nothing = λ before s. refl };
  sends_ = λ app e. record { none = refl; does_nothing = λ before s. refl };
  hears_ = λ app listener pattern. record { none = refl; does_nothing = λ before s. refl };
  deaf_ = λ app listener pattern. record { none = refl; does_nothing = λ before s. refl };
}

pub sent_idle : (who : Party) (e : Envelope) → (who ≡ The_bus → ⊥) → Idle (writes (sent who e))
sent_idle The_bus e other = absurd (other refl)
sent_idle Registry e other = record { none = refl; does_nothing = λ before s. refl }
sent_idle (App a) e other = record { none = refl; does_nothing = λ before s. refl }
sent_idle (Reader r) e other = record { none = refl; does_nothing = λ before s. refl }

pub got_idle : (who from : Party) (serial : ℕ) → (who ≡ The_bus → ⊥) → Idle (writes (got who from serial))
got_idle The_bus from serial other = absurd (other refl)
got_idle Registry from serial other = record { none = refl; does_nothing = λ before s. refl }
got_idle (App a) from serial other = record { none = refl; does_nothing = λ before s. refl }
got_idle (Reader r) from serial other = record { none = refl; does_nothing = λ before s. refl }

pub all_sent_idle : (who : Party) (es : List Envelope) → (who ≡ The_bus → ⊥) → AllByRecursion (λ entry. Idle (writes entry)) (map (sent who) es)
all_sent_idle who [] other = tt
all_sent_idle who (e ∷ es) other = (sent_idle who e other, all_sent_idle who es other)

pub line_idle : (line : Line) → Idle (begins_line line)
line_idle line = record { none = refl; does_nothing = λ before s. refl }

pub move_idle : (who : Party) (up : Bool) (count : ℕ) → Idle (moves_bytes who up count)
move_idle who up count = record { none = refl; does_nothing = λ before s. refl }

-- one joins
started_step : (run : List Act) (s : BusState) (who : Party) (name : Option (List ℕ)) → BusSo run s → BusSo (run ++ writes (started who name) ∷ []) (bus_joins s (length (ends run)))
started_step run s who name b = record {
  is = gathered_more state_after first_state [] run (writes (started who name) ∷ []) ∙ ap (λ g. bus_joins g (length (ends run))) b.is;
  words = still_more of_bus bus_words_due run (writes (started who name) ∷ []) (record { none = refl; nothing = λ before. refl }, tt) b.words;
}

joins_step : (run : List Act) (w : World) (line : Line) (who : Party) (name : Option (List ℕ)) (es : List Entry) → EndsAre run w → AllByRecursion (λ entry. Idle (writes entry)) es → BusSo run w.bus.state
    → BusSo (run ++ begins_line line ∷ map writes (started who name ∷ es)) (bus_joins w.bus.state (length w.ends))
joins_step run w line who name es known a b =
    let first : BusSo (run ++ begins_line line ∷ []) w.bus.state = idle_step run (begins_line line ∷ []) w.bus.state (line_idle line, tt) b in
    let count : length (ends (run ++ begins_line line ∷ [])) ≡ length w.ends = ap length (same_ends run (begins_line line ∷ []) refl ∙ sym known) ∙ sizes w.ends in
    let second : BusSo ((run ++ begins_line line ∷ []) ++ writes (started who name) ∷ []) (bus_joins w.bus.state (length w.ends)) =
    subst (λ k. BusSo ((run ++ begins_line line ∷ []) ++ writes (started who name) ∷ []) (bus_joins w.bus.state k)) count (started_step (run ++ begins_line line ∷ []) w.bus.state who name first) in
    let third = idle_step ((run ++ begins_line line ∷ []) ++ writes (started who name) ∷ []) (map writes es) (bus_joins w.bus.state (length w.ends)) (idle_writes es a) second in
    subst (λ l. BusSo l (bus_joins w.bus.state (length w.ends)))
    (append_assoc (run ++ begins_line line ∷ []) (writes (started who name) ∷ []) (map writes es) ∙ append_assoc run (begins_line line ∷ []) (writes (started who name) ∷ map writes es)) third
  where
    sizes : (es : List End) → length (parties es) ≡ length es
    sizes [] = refl
    sizes (x ∷ xs) = ap suc (sizes xs)

not_bus_reader : (who : Party) (r : ℕ) → who ≡ Reader r → who ≡ The_bus → ⊥
not_bus_reader who r h g = by (sym h ∙ g)
  where
    by : Reader r ≡ The_bus → ⊥
    by k = cc

line_so : (run : List Act) (w : World) (line : Line) (d : Done) → EndsAre run w → Shape w → LineDid w line d → BusSo run w.bus.state → BusSo (run ++ begins_line line ∷ map writes d.entries) d.world.bus.state
line_so run w line d known s l b = by line d l
  where
    quiet_line : (line : Line) (d : Done) → AllByRecursion (λ entry. Idle (writes entry)) d.entries → d.world.bus.state ≡ w.bus.state → BusSo (run ++ begins_line line ∷ map writes d.entries) d.world.bus.state
    quiet_line line d a same = subst (BusSo (run ++ begins_line line ∷ map writes d.entries)) (sym same) (idle_step run (begins_line line ∷ map writes d.entries) w.bus.state (line_idle line, idle_writes d.entries a) b)

    anew : (quota : ℕ) → length w.ends ≤ 1 → ((2 ≤ length w.ends) ⊎ (w ≡ first_world w.bus.quota)) → (first_world quota).bus.state ≡ w.bus.state
    anew quota few (inl two) = absurd (omega (arith, two, few))
    anew quota few (inr h) = sym (ap (λ (x : World). x.bus.state) h)

    by : (line : Line) (d : Done) → LineDid w line d → BusSo (run ++ begins_line line ∷ map writes d.entries) d.world.bus.state
    by line _ (renewed quota few) = quiet_line line (only (first_world quota) []) tt (anew quota (ltb-false 1 (length w.ends) few) s.alone)
    by line _ (app_began name short few) = joins_step run w line (App (app_count w.ends)) (Some name) (map (did_so (new_number w name)) (starts (begins name)).out) known (app_all (λ entry. Idle (writes entry)) apps_idle (new_number w name) (starts (begins name)).out) b
    by line _ (reader_began few) = joins_step run w line (Reader (reader_count w.ends)) None (sent (Reader (reader_count w.ends)) (asking 1 Hello) ∷ []) known (record { none = refl; does_nothing = λ before s. refl }, tt) b
    by line d (edited_app app conn edit e before after h who role done_ can) = quiet_line line d (app_all (λ entry. Idle (writes entry)) apps_idle _ after.out) refl
    by line d (called_app reader app node conn deed e hearer h who role) = quiet_line line d (sent_idle (party_at w.ends conn) _ (not_bus_reader (party_at w.ends conn) reader (ap whose h.there ∙ who)), tt) refl
    by line d (swapped app) = quiet_line line d tt refl
    by line _ (app_stopped app d b who) = quiet_line line d (subst (λ (x : Done). AllByRecursion (λ entry. Idle (writes entry)) x.entries) (sym b.is) (record { none = refl; does_nothing = λ before s. refl }, tt)) (ap (λ (x : Done). x.world.bus.state) b.is)
    by line _ (reader_stopped reader d b who) = quiet_line line d (subst (λ (x : Done). AllByRecursion (λ entry. Idle (writes entry)) x.entries) (sym b.is) (record { none = refl; does_nothing = λ before s. refl }, tt)) (ap (λ (x : Done). x.world.bus.state) b.is)
    by line d (showed reader app conn e hearer there who role) = quiet_line line d (record { none = refl; does_nothing = λ before s. refl }, tt) refl

-- MOVES: those of bytes do nothing; that of an end is the bus's
abbrev pub IsUnjoin : Cause → Type 0
IsUnjoin (unjoins conn) = Unit {0}
IsUnjoin c = ⊥

turn_idle : (w : World) (c : Cause) → (IsUnjoin c → ⊥) → AllByRecursion Idle (turn_move w c)
turn_idle w (routes conn) n = (move_idle _ true _, tt)
turn_idle w (gets conn) n = (move_idle _ false _, tt)
turn_idle w (unjoins conn) n = absurd (n tt)
turn_idle w (renews quota) n = tt
turn_idle w (starts_app name) n = tt
turn_idle w starts_reader n = tt
turn_idle w (edits conn edit) n = tt
turn_idle w (calls conn name node deed) n = tt
turn_idle w swaps_face n = tt
turn_idle w (exits conn) n = tt
turn_idle w (shows conn app) n = tt
turn_idle w (tells_busy turns) n = tt
turn_idle w tells_quiet n = tt

stopped_idle : (w : World) (c : Cause) → (IsUnjoin c → ⊥) → AllByRecursion Idle (stopped_move w c)
stopped_idle w (routes conn) n = tt
stopped_idle w (gets conn) n = tt
stopped_idle w (unjoins conn) n = absurd (n tt)
stopped_idle w (renews quota) n = tt
stopped_idle w (starts_app name) n = tt
stopped_idle w starts_reader n = tt
stopped_idle w (edits conn edit) n = tt
stopped_idle w (calls conn name node deed) n = tt
stopped_idle w swaps_face n = tt
stopped_idle w (exits conn) n = tt
stopped_idle w (shows conn app) n = tt
stopped_idle w (tells_busy turns) n = tt
stopped_idle w tells_quiet n = tt

pub moves_idle : (w : World) (work : Work) (c : Cause) → (IsUnjoin c → ⊥) → AllByRecursion Idle (moves_for w work c)
moves_idle w (turning count left) c n = turn_idle w c n
moves_idle w draining c n = turn_idle w c n
moves_idle w (moving_up conn count) c n = stopped_idle w c n
moves_idle w (moving_down conn count) c n = tt
moves_idle w resting c n = tt
moves_idle w (doing d) c n = tt

pub end_move : (w : World) (work left : Work) (conn : ℕ) → IsBare work → next_of w work ≡ cause (unjoins conn) w left → moves_for w work (unjoins conn) ≡ takes_end (party_at w.ends conn) ∷ []
end_move w (turning count n) left conn b h = refl
end_move w draining left conn b h = refl
end_move w (moving_up k count) left conn b h = refl
end_move w (moving_down k count) left conn b h = absurd (no_get (down_goes w k count (unjoins conn) left h).cause_is)
  where
    no_get : unjoins conn ≡ gets k → ⊥
    no_get g = cc
end_move w resting left conn b h = absurd cc
end_move w (doing c) left conn b h = absurd b

up_idle : (count : ℕ) (e : End) (st : Standing) → AllByRecursion Idle (up_move count e st)
up_idle count e here = (move_idle e.who true _, tt)
up_idle zero e stopped = (move_idle e.who true 0, tt)
up_idle (suc count) e stopped = tt
up_idle zero e away = (move_idle e.who true 0, tt)
up_idle (suc count) e away = (move_idle e.who true 0, tt)

down_idle : (count : ℕ) (e : End) (st : Standing) → AllByRecursion Idle (down_move count e st)
down_idle count e here = (move_idle e.who false _, tt)
down_idle count e stopped = (move_idle e.who false 0, tt)
down_idle count e away = (move_idle e.who false 0, tt)

known_idle : (o : Option End) (acts : End → List Act) → ((e : End) → AllByRecursion Idle (acts e)) → AllByRecursion Idle (at_known o acts)
known_idle None acts f = tt
known_idle (Some e) acts f = f e

pub line_moves_idle : (w : World) (work : Work) → AllByRecursion Idle (line_moves w work)
line_moves_idle w (moving_up conn count) = known_idle (end_at w.ends conn) (λ e. up_move count e e.standing) (λ e. up_idle count e e.standing)
line_moves_idle w (moving_down conn count) = known_idle (end_at w.ends conn) (λ e. down_move count e e.standing) (λ e. down_idle count e e.standing)
line_moves_idle w (turning count left) = tt
line_moves_idle w draining = tt
line_moves_idle w resting = tt
line_moves_idle w (doing c) = tt

-- TURNS
turn_so : (front : List Act) (w : World) (free next : Option ℕ) (c : Cause) (d : Done) → Front front w free → Front (front ++ map writes d.entries) d.world next → Shape w → TurnDid w c d → (IsUnjoin c → ⊥) → parties d.world.ends ≡ parties w.ends
    → BusSo front w.bus.state → BusSo (front ++ map writes d.entries) d.world.bus.state
turn_so front w free next _ _ f after s (told_busy turns) n same b = idle_step front (writes (busy turns) ∷ []) w.bus.state (record { none = refl; does_nothing = λ before t. refl }, tt) b
turn_so front w free next _ _ f after s (told_quiet none) n same b = idle_step front (writes quiet ∷ []) w.bus.state (record { none = refl; does_nothing = λ before t. refl }, tt) b
turn_so front w free next _ _ f after s (bus_took d t) n same b = took_so front w free next d f after same b t
turn_so front w free next _ _ f after s (bus_ended d t) n same b = absurd (n tt)
turn_so front w free next _ _ f after s (registry_took d t) n same b =
    let other : t.e.who ≡ The_bus → ⊥ = no_bus w t.conn t.e s t.is_here.there in
    subst (BusSo (front ++ map writes d.entries)) (sym (ap (λ (x : Done). x.world.bus.state) t.is))
    (idle_step front (map writes d.entries) w.bus.state (idle_writes d.entries (subst (λ (x : Done). AllByRecursion (λ entry. Idle (writes entry)) x.entries) (sym t.is)
    (got_idle t.e.who t.letter.from t.letter.said.message.serial other, all_sent_idle t.e.who (registry_takes t.before t.letter.said.message).sent other))) b)
turn_so front w free next _ _ f after s (app_took d t) n same b =
    subst (BusSo (front ++ map writes d.entries)) (sym (ap (λ (x : Done). x.world.bus.state) t.is))
    (idle_step front (map writes d.entries) w.bus.state (idle_writes d.entries (subst (λ (x : Done). AllByRecursion (λ entry. Idle (writes entry)) x.entries) (sym t.is)
    (got_idle t.e.who t.letter.from t.letter.said.message.serial (no_bus w t.conn t.e s t.is_here.there), app_all (λ entry. Idle (writes entry)) apps_idle _ (app_takes t.before t.letter.said.message).out))) b)
turn_so front w free next _ _ f after s (reader_took d t) n same b =
    subst (BusSo (front ++ map writes d.entries)) (sym (ap (λ (x : Done). x.world.bus.state) t.is))
    (idle_step front (map writes d.entries) w.bus.state (idle_writes d.entries (subst (λ (x : Done). AllByRecursion (λ entry. Idle (writes entry)) x.entries) (sym t.is) (
      got_idle t.e.who t.letter.from t.letter.said.message.serial (no_bus w t.conn t.e s t.is_here.there),
      heard_all (λ entry. Idle (writes entry)) (λ r app line. record { none = refl; does_nothing = λ before x. refl }) (λ r app. record { none = refl; does_nothing = λ before x. refl }) (number_of t.e.who) t.hearer (received w t.conn t.e t.letter).ends t.letter,
    ))) b)

-- ALONG A RUN
caused_so : (run : List Act) (w : World) (free next : Option ℕ) (work left : Work) (c : Cause) (d : Done) → Front run w free → Front (run ++ (moves_for w work c ++ map writes d.entries)) d.world next → Shape w → IsBare work → next_of w work ≡ cause c w left
    → TurnDid w c d → parties d.world.ends ≡ parties w.ends → BusSo run w.bus.state → BusSo (run ++ (moves_for w work c ++ map writes d.entries)) d.world.bus.state
caused_so run w free next work left c d f after s bare is t same b = by c d t is after same
  where
    plain : (c : Cause) (d : Done) → (IsUnjoin c → ⊥) → TurnDid w c d → Front (run ++ (moves_for w work c ++ map writes d.entries)) d.world next → parties d.world.ends ≡ parties w.ends → BusSo (run ++ (moves_for w work c ++ map writes d.entries)) d.world.bus.state
    plain c d n t after same =
        let moves : List Act = moves_for w work c in
        let apart : (run ++ moves) ++ map writes d.entries ≡ run ++ (moves ++ map writes d.entries) = append_assoc run moves (map writes d.entries) in
        subst (λ l. BusSo l d.world.bus.state) apart
        (turn_so (run ++ moves) w None next c d (front_moved run moves w free (moves_are w work c) f) (subst (λ l. Front l d.world next) (sym apart) after) s t n same (idle_step run moves w.bus.state (moves_idle w work c n) b))

    by : (c : Cause) (d : Done) → TurnDid w c d → next_of w work ≡ cause c w left → Front (run ++ (moves_for w work c ++ map writes d.entries)) d.world next → parties d.world.ends ≡ parties w.ends
        → BusSo (run ++ (moves_for w work c ++ map writes d.entries)) d.world.bus.state
    by _ _ (bus_ended d e) is after same =
        let moves_are_so : moves_for w work (unjoins e.conn) ≡ takes_end (party_at w.ends e.conn) ∷ [] = end_move w work left e.conn bare is in
        subst (λ l. BusSo (run ++ (l ++ map writes d.entries)) d.world.bus.state) (sym moves_are_so)
        (ended_so run w free next d f e (subst (λ l. Front (run ++ (l ++ map writes d.entries)) d.world next) moves_are_so after) same b)
    by _ _ (told_busy turns) is after same = plain (tells_busy turns) _ (λ x. x) (told_busy turns) after same
    by _ _ (told_quiet none) is after same = plain tells_quiet _ (λ x. x) (told_quiet none) after same
    by _ _ (bus_took d e) is after same = plain (routes e.conn) d (λ x. x) (bus_took d e) after same
    by _ _ (registry_took d e) is after same = plain (gets e.conn) d (λ x. x) (registry_took d e) after same
    by _ _ (app_took d e) is after same = plain (gets e.conn) d (λ x. x) (app_took d e) after same
    by _ _ (reader_took d e) is after same = plain (gets e.conn) d (λ x. x) (reader_took d e) after same

moved_state : (w v : World) → Moves w v → v.bus.state ≡ w.bus.state
moved_state w v (inl same) = ap (λ (x : World). x.bus.state) same
moved_state w v (inr (inl m)) = ap (λ (x : World). x.bus.state) m.after
moved_state w v (inr (inr m)) = ap (λ (x : World). x.bus.state) m.after

pub bus_along : (run : List Act) (w : World) (free : Option ℕ) (at : Option Work) → Ran run w free at → Lives (entries_in run) → BusSo run w.bus.state
bus_along _ _ _ _ nothing_yet live = record { is = first_is QUOTA_MOST; words = tt }
bus_along _ _ _ _ (did run w line c r ok can is a) live =
    let s : Shape w = shape_along run w None None r in
    line_so run w line (does w c) (ends_along run w None None r) s (line_did w line c s ok can a is) (bus_along run w None None r (lived_before run (begins_line line ∷ map writes (does w c).entries) live))
bus_along _ _ _ _ (began run w line r ok can b) live =
    idle_step run (begins_line line ∷ line_moves w (work_of w line)) w.bus.state (line_idle line, line_moves_idle w (work_of w line)) (bus_along run w None None r (lived_before run (begins_line line ∷ line_moves w (work_of w line)) live))
bus_along _ _ _ _ (caused run w free work left c r is b a) live =
    let before : Lives (entries_in run) = lived_before run (moves_for w work c ++ map writes (does w c).entries) live in
    let s : Shape w = shape_along run w free (Some work) r in
    let t : TurnDid w c (does w c) = turn_did w c s (bare_quiet w work left c b is) a in
    caused_so run w free (freed c) work left c (does w c) (front_of run w free (Some work) r before)
    (front_of (run ++ (moves_for w work c ++ map writes (does w c).entries)) (does w c).world (freed c) (Some left) (caused run w free work left c r is b a) live) s b is t (turn_parties w c (does w c) t) (bus_along run w free (Some work) r before)
bus_along _ _ _ _ (rested run w v free work r is m well) live = subst (BusSo run) (sym (moved_state w v m)) (bus_along run w free (Some work) r live)
bus_along _ _ _ _ (asked run w conn q m question work r a) live =
    idle_step run (writes (sent (Reader q) m) ∷ []) w.bus.state (record { none = refl; does_nothing = λ before s. refl }, tt) (bus_along run w (Some conn) work r (lived_before run (writes (sent (Reader q) m) ∷ []) live))
