-- THE LINKS FROM THE BUS ALONG A RUN: the bus's state, its quota and its deliveries are those that the run tells, and so is what lies on each link.
use Rattle.std.proofs.Common.{◌≡◌, ℕ, zero, suc, ◌+◌, ◌<◌, ◌≤◌, Bool, true, false, List, [], ◌∷◌, ◌++◌, length, map, Option, None, Some, refl, sym, ap, ap₂, ◌∙◌, subst, arith}
use Rattle.std.specs.Prelude.{◌||◌, not, filter, filter_map, fold, option_map, position, slice_get, get_or, if◌then◌else◌}
use Rattle.std.specs.List.{AllByRecursion, cons_option, list_any}
use Rattle.std.proofs.lemmas.Bool.{or_parts}
use Rattle.std.proofs.lemmas.List.{append-nil, append_assoc}
use Rattle.std.proofs.lemmas.List.Sums.{fold-append}
use Rattle.std.proofs.lemmas.Option.{slice_get-get_or}
use Rattle.atspi_message.specs.Envelope.{Envelope}
use Rattle.atspi_script_lines.specs.declared.limits.TheConstants.{QUOTA_MOST}
use Rattle.atspi_script_lines.specs.declared.line.Party.{Party}
use Rattle.atspi_script_lines.specs.declared.line.Party.TheVariants.{Bus as The_bus, Registry}
use Rattle.atspi_match.specs.declared.routing.closing.Why.{Why}
use Rattle.atspi_match.specs.declared.routing.closing.Why.TheVariants.{NotHello, Quota}
use Rattle.atspi_match.specs.declared.routing.closing.Closing.{Closing}
use Rattle.atspi_match.specs.routing.Steps.{Move, says, delivers, closes, BusStep, bus_takes, bus_leaves}
use Rattle.atspi_match.specs.routing.Queues.{is_due}
use Rattle.atspi_trace.specs.Rules.{rule_in}
use Rattle.atspi_trace.specs.Entry.{Entry, got}
use Rattle.atspi_trace.specs.World.{here, away, Said, Letter, End, World}
use Rattle.atspi_trace.specs.Ends.{same_party, whose, party_at, end_at}
use Rattle.atspi_trace.specs.Carrying as carrying
use Rattle.atspi_trace.specs.Carrying.{Carried, left, one_closed, settled, sent_by_bus, is_upto, dropped_if, bus_entries}
use Rattle.atspi_trace.specs.Causes.{bus_did}
use Rattle.atspi_headline.specs.Words.{Act, begins_line, moves_bytes, takes_end, writes, start_in, is_same, ends, place_of, with_serial}
use Rattle.atspi_headline.specs.Links.{bus_took, bus_left, bus_does, moved, Delivery, delivery_to, delivery_in, deliveries, quota_after, quota_of, letters}
use Rattle.atspi_trace_laws.proofs.OfOrder.Parties.{same_some, false_true, same-party}
use Rattle.atspi_trace_laws.proofs.OfOrder.Each.{all_map}
use Rattle.atspi_trace_laws.proofs.OfOrder.Frame.{Over, at_below}
use Rattle.atspi_trace_laws.proofs.OfOrder.Shape.{Lasts, Shape}
use Rattle.atspi_trace_laws.proofs.OfOrder.Closed.{IsTold}
use Rattle.atspi_trace_laws.proofs.OfDrops.Reaching.{Reach, DueBelow, ClosedBelow, Within, takes_within, ends_within}
use Rattle.atspi_trace_laws.proofs.OfQuiet.Hello.{ToldForRoom, Greets, is_of, Nobody, takes_settling, ends_settling}
use Rattle.atspi_trace_laws.proofs.OfQuiet.Here.{Greeted}
use Rattle.atspi_headline_laws.proofs.Making.{AllMoves}
use Rattle.atspi_headline_laws.proofs.Words.{chosen_more}
use Rattle.atspi_trace_laws.proofs.OfOwn.Counting.{is_quota}
use Rattle.atspi_headline_laws.proofs.Reading.{same_who}
use Rattle.atspi_headline_laws.proofs.Joining.{parties}
use Rattle.atspi_headline_quiet.proofs.Marking.{HasMarks}
use Rattle.atspi_headline_quiet.proofs.Standing.{NoEnd, nobody_before, self_same, outs_of, outs_in, closed_at, Aways, takes_away, ends_away}
use Rattle.atspi_headline_quiet.proofs.Filling.{Fills, Open, after_step, takes_letters, takes_fills, ends_letters, ends_fills}
use Rattle.atspi_headline_quiet.proofs.Walking.{StandsOnce, first_deliveries, IsOfEnd, place_is, Walked, IsIdle, walk_one, walk_both, walk_idle, walk_course, state_of, closings_are, course_closings, course_deliveries, moved_more, moved_written, to_one, to_more, pair}
use Rattle.atspi_headline_quiet.proofs.Delivering.{party_get, Marked, said_delivered, own_delivered, both_delivered, course_delivered}
use Rattle.atspi_headline_quiet.proofs.Downing.{DownTie, down_gains}

-- CONNECTIONS are those of ends
abbrev pub Under : ℕ → ℕ → Type 0
Under n c = c < n

end_there : (l : List End) (k : ℕ) → k < length l → (e : End) × (end_at l k ≡ Some e)
end_there [] k h = absurd (omega (arith, h))
end_there (x ∷ xs) k h = (get_or (x ∷ xs) k x, slice_get-get_or (x ∷ xs) k x h)

-- the closings of one cause are of ends that are there, and not of the registry, which lives
of_ends : (es : List End) (own : List Envelope) (cs : List Closing) → AllByRecursion (ClosedBelow (Under (length es))) cs → AllByRecursion ToldForRoom cs → (list_any (outs_in Registry) (bus_entries es own cs) ≡ true → ⊥) → AllByRecursion (IsOfEnd es) cs
of_ends es own [] a q live = tt
of_ends es own (c ∷ cs) a q live = by (same_party (party_at es c.conn) Registry) refl (λ l. of_ends es (filter (λ e. not (is_upto c.after e)) own) cs a.1 q.1 l)
  where
    front : List Entry
    front = sent_by_bus (filter (is_upto c.after) own)

    rest : List Entry
    rest = bus_entries es (filter (λ e. not (is_upto c.after e)) own) cs

    any_behind : (xs ys : List Entry) → list_any (outs_in Registry) ys ≡ true → list_any (outs_in Registry) (xs ++ ys) ≡ true
    any_behind [] ys h = h
    any_behind (x ∷ xs) ys h = or_true (outs_in Registry x) (list_any (outs_in Registry) (xs ++ ys)) (any_behind xs ys h)
      where
        or_true : (a b : Bool) → b ≡ true → (a || b) ≡ true
        or_true true b g = refl
        or_true false b g = g

    x : (e : End) × (end_at es c.conn ≡ Some e)
    x = end_there es c.conn a.0

    told : (why : Why) → is_quota why ≡ true → same_party (party_at es c.conn) Registry ≡ true → list_any (outs_in Registry) (dropped_if (party_at es c.conn) why ++ (if same_party (party_at es c.conn) Registry then [] else rest)) ≡ true
    told (Quota queued len) h g = ap (λ b. b || list_any (outs_in Registry) (if same_party (party_at es c.conn) Registry then [] else rest)) (same_who (party_at es c.conn) Registry ∙ g)
    told NotHello h g = absurd (false_true h)

    later : (why : Why) → same_party (party_at es c.conn) Registry ≡ false → list_any (outs_in Registry) rest ≡ true → list_any (outs_in Registry) (front ++ (dropped_if (party_at es c.conn) why ++ (if same_party (party_at es c.conn) Registry then [] else rest))) ≡ true
    later why g h =
        ap (λ b. list_any (outs_in Registry) (front ++ (dropped_if (party_at es c.conn) why ++ (if b then [] else rest)))) g
        ∙ any_behind front (dropped_if (party_at es c.conn) why ++ rest) (any_behind (dropped_if (party_at es c.conn) why) rest h)

    by : (b : Bool) → same_party (party_at es c.conn) Registry ≡ b → ((list_any (outs_in Registry) rest ≡ true → ⊥) → AllByRecursion (IsOfEnd es) cs) → AllByRecursion (IsOfEnd es) (c ∷ cs)
    by true g ih = absurd (live (any_behind front _ (told c.why q.0 g)))
    by false g ih = (
      record { e = x.0; there = x.1; other = ap (λ p. same_party p Registry) (sym (ap whose x.1)) ∙ g; told = q.0 },
      ih (λ h. live (later c.why g h)),
    )

-- whose ends there are stays
pub over_parties : (xs ys : List End) → Over Lasts xs ys → parties ys ≡ parties xs
over_parties [] [] o = refl
over_parties [] (y ∷ ys) o = absurd (omega (arith, o.size))
over_parties (x ∷ xs) [] o = absurd (omega (arith, o.size))
over_parties (x ∷ xs) (y ∷ ys) o =
    let first = o.back 0 y refl in
    let size : suc (length ys) ≡ suc (length xs) = o.size in
    let less : length ys ≡ length xs = omega (arith, size) in
    ap₂ (λ p l. p ∷ l) (first.2.whose ∙ ap (λ (e : End). e.who) (sym (same_some x first.0 first.1))) (over_parties xs ys (record { size = less; back = λ k d h. o.back (suc k) d h }))

-- THE TIE of the bus
pub record BusTie (run : List Act) (w : World) : Type 0 where
  pub state : state_of run ≡ w.bus.state
  pub quota : quota_of run ≡ w.bus.quota
  pub reach : Reach (Under (length w.ends)) w.bus.state
  pub early : length w.ends ≤ 1 → deliveries run ≡ []
  pub unknown : (who : Party) → NoEnd w who → (to_one who (deliveries run) ≡ []) × (moved run who false ≡ 0)

abbrev pub DownsTied : List Act → World → (ℕ → End → ℕ) → Type 0
DownsTied run w ahead = (k : ℕ) (e : End) → end_at w.ends k ≡ Some e → e.standing ≡ here → DownTie run w.bus.quota w.bus.waiting.queues k e (ahead k e)

-- ACTS in which the bus does nothing, and that set no quota
abbrev pub Still : Act → Type 0
Still act = IsIdle act × ((q : ℕ) → quota_after q act ≡ q)

pub record Calm (run acts : List Act) : Type 0 where
  pub state : state_of (run ++ acts) ≡ state_of run
  pub handed : deliveries (run ++ acts) ≡ deliveries run
  pub quota : quota_of (run ++ acts) ≡ quota_of run

same_fold : (q : ℕ) (acts : List Act) → AllByRecursion Still acts → fold quota_after q acts ≡ q
same_fold q [] a = refl
same_fold q (act ∷ acts) a = ap (λ x. fold quota_after x acts) (a.0.1 q) ∙ same_fold q acts a.1

pub calm_of : (run acts : List Act) → AllByRecursion Still acts → Calm run acts
calm_of run acts a =
    let w : Walked run acts (state_of run) [] = walk_idle run acts (all_map Still IsIdle acts (λ act s. s.0) a) in
    record { state = w.state; handed = w.handed ∙ append-nil (deliveries run); quota = fold-append quota_after QUOTA_MOST run acts ∙ same_fold (quota_of run) acts a }

-- the ends stay, and so does what the bus knows
pub same_bus : (run acts : List Act) (w v : World) → BusTie run w → Calm run acts → v.bus.state ≡ w.bus.state → v.bus.quota ≡ w.bus.quota → Over Lasts w.ends v.ends → ((who : Party) → NoEnd w who → moved acts who false ≡ 0) → BusTie (run ++ acts) v
same_bus run acts w v i c state quota o none = record {
  state = c.state ∙ i.state ∙ sym state;
  quota = c.quota ∙ i.quota ∙ sym quota;
  reach = subst (λ n. Reach (Under n) v.bus.state) (sym o.size) (subst (Reach (Under (length w.ends))) (sym state) i.reach);
  early = λ few. c.handed ∙ i.early (subst (λ n. n ≤ 1) o.size few);
  unknown = λ who nobody.
      let before : NoEnd w who = nobody_before Lasts w.ends v.ends o (λ e d l. l.whose) who nobody in
      let u = i.unknown who before in
      (ap (to_one who) c.handed ∙ u.0, moved_more run acts who false ∙ sum (moved run who false) (moved acts who false) u.1 (none who before));
}
  where
    sum : (a b : ℕ) → a ≡ 0 → b ≡ 0 → a + b ≡ 0
    sum a b h g = omega (arith, h, g)

-- THE BUS DID something: how it walks, and to whom it hands what
record BusWalked (run acts : List Act) (w : World) (c : Carried) (ls : ℕ → List Letter) : Type 0 where
  pub ds : List Delivery
  pub walked : Walked run acts c.bus.state ds
  pub given : (k : ℕ) (d : End) → end_at c.ends k ≡ Some d → (letters (to_one d.who ds) ≡ map pair (ls k)) × AllByRecursion (Marked (moved run d.who false)) (to_one d.who ds)
  pub nobody : (who : Party) → NoEnd w who → to_one who ds ≡ []
  pub quota : quota_of (run ++ acts) ≡ quota_of run
  pub moves : (who : Party) → moved acts who false ≡ 0
  pub reach : Reach (Under (length w.ends)) c.bus.state

bus_tied : (run acts : List Act) (w : World) (front : List Entry) (c : Carried) (ls : ℕ → List Letter) → BusTie run w → DownsTied run w (λ k e. 0) → ((k : ℕ) (e : End) → end_at w.ends k ≡ Some e → HasMarks e) → 2 ≤ length w.ends → Over Lasts w.ends c.ends → c.bus.quota ≡ w.bus.quota
    → BusWalked run acts w c ls → ((k : ℕ) (d : End) → end_at c.ends k ≡ Some d → d.standing ≡ here → Fills w.bus.quota k w.bus.waiting.queues c.bus.waiting.queues w.ends c.ends (ls k))
    → BusTie (run ++ acts) (bus_did w front c).world × DownsTied (run ++ acts) (bus_did w front c).world (λ k e. 0)
bus_tied run acts w front c ls i downs marks two o quota b fills = (
  record {
    state = b.walked.state;
    quota = b.quota ∙ i.quota ∙ sym quota;
    reach = subst (λ n. Reach (Under n) c.bus.state) (sym o.size) b.reach;
    early = λ few. absurd (many (length c.ends) (length w.ends) o.size few two);
    unknown = λ who nobody.
        let before : NoEnd w who = nobody_before Lasts w.ends c.ends o (λ e d l. l.whose) who nobody in
        let u = i.unknown who before in (
          ap (to_one who) b.walked.handed ∙ to_more who (deliveries run) b.ds ∙ ap₂ (λ x y. x ++ y) u.0 (b.nobody who before),
          moved_more run acts who false ∙ sum (moved run who false) (moved acts who false) u.1 (b.moves who),
        );
  },
  λ k d there standing.
      let f = fills k d there standing in
      let x = f.ends d there in
      let g = b.given k d there in
      subst (λ q. DownTie (run ++ acts) q c.bus.waiting.queues k d 0) (sym quota)
      (down_gains run acts w.bus.quota w.bus.waiting.queues c.bus.waiting.queues k x.0 d b.ds (ls k) (downs k x.0 x.1 (sym x.2.standing ∙ standing)) (marks k x.0 x.1) b.walked.handed
      (ap (λ p. letters (to_one p b.ds)) (sym x.2.whose) ∙ g.0) (subst (λ p. AllByRecursion (Marked (moved run p false)) (to_one p b.ds)) x.2.whose g.1) x.2 f.queue f.fits (b.moves x.0.who)),
)
  where
    sum : (a b : ℕ) → a ≡ 0 → b ≡ 0 → a + b ≡ 0
    sum a b h g = omega (arith, h, g)

    many : (m n : ℕ) → m ≡ n → m ≤ 1 → 2 ≤ n → ⊥
    many m n h g i = omega (arith, h, g, i)

-- THE BUS TAKES A MESSAGE
settled_quota : (n : ℕ) (c : Carried) → (settled n c).bus.quota ≡ c.bus.quota
settled_quota zero c = refl
settled_quota (suc n) c = settled_quota n (one_closed c c.bus.waiting.due) ∙ by c.bus.waiting.due
  where
    by : (due : List (ℕ × Why)) → (one_closed c due).bus.quota ≡ c.bus.quota
    by [] = refl
    by (first ∷ rest) = refl

pub still_moves : (acts : List Act) → AllMoves acts → ((who : Party) → outs_of acts who ≡ false) → AllByRecursion Still acts
still_moves [] m none = tt
still_moves (moves_bytes who up count ∷ acts) m none = (((λ before s. refl), (λ q. refl)), still_moves acts m none)
still_moves (takes_end who ∷ acts) m none = absurd (false_true (sym (or_parts (is_same who who) (outs_of acts who) (none who)).0 ∙ self_same who))
still_moves (begins_line line ∷ acts) m none = absurd m
still_moves (writes entry ∷ acts) m none = absurd m

no_starts : (acts : List Act) → AllMoves acts → filter_map start_in acts ≡ []
no_starts [] m = refl
no_starts (moves_bytes who up count ∷ acts) m = no_starts acts m
no_starts (takes_end who ∷ acts) m = no_starts acts m
no_starts (begins_line line ∷ acts) m = absurd m
no_starts (writes entry ∷ acts) m = absurd m

quota_written : (q : ℕ) (es : List Entry) → fold quota_after q (map writes es) ≡ q
quota_written q [] = refl
quota_written q (e ∷ es) = quota_written q es

nobody_at : (run : List Act) (es : List End) (tie : parties es ≡ ends run) (who : Party) → ((k : ℕ) (e : End) → end_at es k ≡ Some e → e.who ≡ who → ⊥) → (from : Party) (moves : List Move) → to_one who (filter_map (delivery_in run from) moves) ≡ []
nobody_at run es tie who never from [] = refl
nobody_at run es tie who never from (says m ∷ moves) = nobody_at run es tie who never from moves
nobody_at run es tie who never from (closes conn ∷ moves) = nobody_at run es tie who never from moves
nobody_at run es tie who never from (delivers place m ∷ moves) =
    ap (λ d. to_one who (cons_option d (filter_map (delivery_in run from) moves)))
    (ap (λ l. option_map (delivery_to run from m) (slice_get l place)) (sym tie) ∙ ap (option_map (delivery_to run from m)) (party_get es place)) ∙ by (end_at es place) refl (nobody_at run es tie who never from moves)
  where
    at : (x : End) → end_at es place ≡ Some x → (b : Bool) → is_same x.who who ≡ b → b ≡ false
    at x h false g = refl
    at x h true g = absurd (never place x h (same-party x.who who (sym (same_who x.who who) ∙ g)))

    by : (o : Option End) → end_at es place ≡ o → to_one who (filter_map (delivery_in run from) moves) ≡ []
        → to_one who (cons_option (option_map (delivery_to run from m) (option_map (λ (e : End). e.who) o)) (filter_map (delivery_in run from) moves)) ≡ []
    by None h ih = ih
    by (Some x) h ih = ap (λ b. if b then delivery_to run from m x.who ∷ to_one who (filter_map (delivery_in run from) moves) else to_one who (filter_map (delivery_in run from) moves)) (at x h (is_same x.who who) refl) ∙ ih

nobody_course : (run : List Act) (es : List End) (tie : parties es ≡ ends run) (who : Party) → ((k : ℕ) (e : End) → end_at es k ≡ Some e → e.who ≡ who → ⊥) → (n : ℕ) (c : Carried) → to_one who (course_deliveries run n c) ≡ []
nobody_course run es tie who never zero c = refl
nobody_course run es tie who never (suc n) c =
    to_more who (first_deliveries run c c.bus.waiting.due) (course_deliveries run n (one_closed c c.bus.waiting.due))
    ∙ ap₂ (λ x y. x ++ y) (by c.bus.waiting.due) (nobody_course run es tie who never n (one_closed c c.bus.waiting.due))
  where
    by : (due : List (ℕ × Why)) → to_one who (first_deliveries run c due) ≡ []
    by [] = refl
    by (first ∷ rest) = nobody_at run es tie who never The_bus (bus_leaves c.bus.state first.0).moves

-- what is known of a cause of the bus
pub record Around (run : List Act) (w : World) (c : Carried) (front : List Entry) : Type 0 where
  pub shape : Shape w
  pub after : Shape (bus_did w front c).world
  pub lasts : Over Lasts w.ends c.ends
  pub told : IsTold w
  pub greeted : Greeted w
  pub rested : c.bus.waiting.due ≡ []
  pub due_none : w.bus.waiting.due ≡ []
  pub tie : parties w.ends ≡ ends run
  pub registry : list_any (outs_in Registry) (bus_entries c.ends c.bus.own c.bus.closings) ≡ true → ⊥

due_below : (P : ℕ × Why → Type 0) (due : List (ℕ × Why)) → due ≡ [] → AllByRecursion P due
due_below P due h = subst (AllByRecursion P) (sym h) tt

took_walked : (run moves : List Act) (w : World) (conn : ℕ) (e : End) (said : Said) → (c : Carried) → c ≡ carrying.takes (record { bus = w.bus; ends = w.ends }) conn e.who said → end_at w.ends conn ≡ Some e → AllMoves moves → ((who : Party) → outs_of moves who ≡ false) → ((who : Party) → moved moves who false ≡ 0)
    → Greets w.bus.state conn said.message → with_serial (run ++ moves) e.who said.message.serial ≡ said.message ∷ []
    → Around run w c (got The_bus e.who said.message.serial ∷ []) → BusTie run w
    → BusWalked run (moves ++ map writes (got The_bus e.who said.message.serial ∷ bus_entries c.ends c.bus.own c.bus.closings)) w c (λ k. takes_letters k (record { bus = w.bus; ends = w.ends }) conn e.who said)
took_walked run moves w conn e said c c_is there m none none_moved greets sent_ a i = record {
  ds = filter_map (delivery_in base e.who) step.moves ++ course_deliveries base n d;
  walked = all_walked;
  given = λ k x h.
      let both = both_delivered base c.ends once tie k x h (filter_map (delivery_in base e.who) step.moves) (course_deliveries base n d) _ _
      (said_delivered base c.ends once tie k x h e.who said step.moves) (course_delivered base c.ends once tie k x h n d) in
      (both.letters_, subst (λ z. AllByRecursion (Marked z) (to_one x.who (filter_map (delivery_in base e.who) step.moves ++ course_deliveries base n d))) (same_mark x.who) both.marks_);
  nobody = λ who never.
      let gone : (k : ℕ) (x : End) → end_at c.ends k ≡ Some x → x.who ≡ who → ⊥ = λ k x h s. let y = a.lasts.back k x h in never k y.0 y.1 (sym y.2.whose ∙ s) in
      to_more who (filter_map (delivery_in base e.who) step.moves) (course_deliveries base n d)
      ∙ ap₂ (λ x y. x ++ y) (nobody_at base c.ends tie who gone e.who step.moves) (nobody_course base c.ends tie who gone n d);
  quota = ap quota_of (sym (append_assoc run moves words)) ∙ fold-append quota_after QUOTA_MOST base words ∙ quota_written (quota_of base) (got The_bus e.who said.message.serial ∷ its) ∙ calm.quota;
  moves = λ who. moved_more moves words who false ∙ sum (moved moves who false) (moved words who false) (none_moved who) (moved_written (got The_bus e.who said.message.serial ∷ its) who false);
  reach = r.state;
}
  where
    c0 : Carried
    c0 = record { bus = w.bus; ends = w.ends }

    base : List Act
    base = run ++ moves

    step : BusStep
    step = bus_takes w.bus.state conn said.message (rule_in said.message)

    n : ℕ
    n = length w.bus.state.joined

    d : Carried
    d = after_step c0 conn e.who said

    its : List Entry
    its = bus_entries c.ends c.bus.own c.bus.closings

    words : List Act
    words = map writes (got The_bus e.who said.message.serial ∷ its)

    calm : Calm run moves
    calm = calm_of run moves (still_moves moves m none)

    once : StandsOnce c.ends
    once = a.after.one

    tie : parties c.ends ≡ ends base
    tie = over_parties w.ends c.ends a.lasts ∙ a.tie ∙ ap (λ l. Registry ∷ l) (sym (chosen_more start_in run moves ∙ ap (λ l. filter_map start_in run ++ l) (no_starts moves m) ∙ append-nil (filter_map start_in run)))

    same_mark : (who : Party) → moved base who false ≡ moved run who false
    same_mark who = let far : moved base who false ≡ moved run who false + moved moves who false = moved_more run moves who false in let zero_ : moved moves who false ≡ 0 = none_moved who in omega (arith, far, zero_)

    sum : (x y : ℕ) → x ≡ 0 → y ≡ 0 → x + y ≡ 0
    sum x y h g = omega (arith, h, g)

    r : Within (Under (length w.ends)) c
    r = subst (Within (Under (length w.ends))) (sym c_is)
        (takes_within (Under (length w.ends)) c0 conn e.who said (at_below w.ends conn e there)
        (record { state = i.reach; due = due_below (DueBelow (Under (length w.ends))) w.bus.waiting.due a.due_none; told = subst (AllByRecursion (ClosedBelow (Under (length w.ends)))) (sym a.told.closings) tt }))

    -- the message itself
    place : place_of base e.who ≡ Some conn
    place = ap (position (is_same e.who)) (sym (sym (over_parties w.ends c.ends a.lasts) ∙ tie)) ∙ place_is w.ends conn e a.shape.one there

    does_ : bus_does base (state_of base) (writes (got The_bus e.who said.message.serial)) ≡ step
    does_ =
        ap (λ s. bus_took s (place_of base e.who) (with_serial base e.who said.message.serial)) (calm.state ∙ i.state)
        ∙ ap₂ (λ o l. bus_took w.bus.state o l) place sent_

    got_walked : Walked base (writes (got The_bus e.who said.message.serial) ∷ []) step.state (filter_map (delivery_in base e.who) step.moves)
    got_walked =
        subst (λ (x : BusStep). Walked base (writes (got The_bus e.who said.message.serial) ∷ []) x.state (filter_map (delivery_in base e.who) x.moves)) does_
        (walk_one base (writes (got The_bus e.who said.message.serial)))

    -- the closings
    closings : c.bus.closings ≡ course_closings n d
    closings = ap (λ (x : Carried). x.bus.closings) c_is ∙ closings_are n d ∙ ap (λ l. l ++ course_closings n d) a.told.closings

    of_those : AllByRecursion (IsOfEnd c.ends) (course_closings n d)
    of_those =
        subst (AllByRecursion (IsOfEnd c.ends)) closings
        (of_ends c.ends c.bus.own c.bus.closings (subst (λ k. AllByRecursion (ClosedBelow (Under k)) c.bus.closings) (sym a.lasts.size) r.told)
        (subst (λ (x : Carried). AllByRecursion ToldForRoom x.bus.closings) (sym c_is) (takes_settling c0 conn e.who said a.greeted.due a.told.closings greets).told) a.registry)

    course_walked : Walked (base ++ writes (got The_bus e.who said.message.serial) ∷ []) (map writes its) c.bus.state (course_deliveries base n d)
    course_walked =
        subst (λ (cs : List Closing). Walked (base ++ writes (got The_bus e.who said.message.serial) ∷ []) (map writes (bus_entries c.ends c.bus.own cs)) c.bus.state (course_deliveries base n d)) (sym closings)
        (subst (λ (x : Carried). Walked (base ++ writes (got The_bus e.who said.message.serial) ∷ []) (map writes (bus_entries c.ends c.bus.own (course_closings n d))) x.bus.state (course_deliveries base n d)) (sym c_is)
        (walk_course base c.ends once tie n d (writes (got The_bus e.who said.message.serial) ∷ []) c.bus.own (record { starts = refl; moves = λ who. refl }) got_walked.state of_those))

    all_walked : Walked run (moves ++ words) c.bus.state (filter_map (delivery_in base e.who) step.moves ++ course_deliveries base n d)
    all_walked =
        walk_both run moves words (state_of run) c.bus.state [] (filter_map (delivery_in base e.who) step.moves ++ course_deliveries base n d)
        (walk_idle run moves (all_map Still IsIdle moves (λ act s. s.0) (still_moves moves m none)))
        (walk_both base (writes (got The_bus e.who said.message.serial) ∷ []) (map writes its) step.state c.bus.state (filter_map (delivery_in base e.who) step.moves) (course_deliveries base n d) got_walked course_walked)

-- THE BUS TAKES AN END
ended_walked : (run : List Act) (w : World) (conn : ℕ) (e : End) → (c : Carried) → c ≡ carrying.takes_end (record { bus = w.bus; ends = w.ends }) conn → end_at w.ends conn ≡ Some e
    → Around run w c [] → BusTie run w
    → BusWalked run (takes_end (party_at w.ends conn) ∷ map writes (bus_entries c.ends c.bus.own c.bus.closings)) w c (λ k. ends_letters k (record { bus = w.bus; ends = w.ends }) conn)
ended_walked run w conn e c c_is there a i = record {
  ds = filter_map (delivery_in run The_bus) step.moves ++ course_deliveries run n d;
  walked = all_walked;
  given = λ k x h.
      let both = both_delivered run c.ends once tie k x h (filter_map (delivery_in run The_bus) step.moves) (course_deliveries run n d) _ _
      (own_delivered run c.ends once tie k x h step.moves) (course_delivered run c.ends once tie k x h n d) in
      (both.letters_, both.marks_);
  nobody = λ who never.
      let gone : (k : ℕ) (x : End) → end_at c.ends k ≡ Some x → x.who ≡ who → ⊥ = λ k x h s. let y = a.lasts.back k x h in never k y.0 y.1 (sym y.2.whose ∙ s) in
      to_more who (filter_map (delivery_in run The_bus) step.moves) (course_deliveries run n d)
      ∙ ap₂ (λ x y. x ++ y) (nobody_at run c.ends tie who gone The_bus step.moves) (nobody_course run c.ends tie who gone n d);
  quota = fold-append quota_after QUOTA_MOST run (takes_end (party_at w.ends conn) ∷ map writes its) ∙ quota_written (quota_of run) its;
  moves = λ who. moved_written its who false;
  reach = r.state;
}
  where
    c0 : Carried
    c0 = record { bus = w.bus; ends = w.ends }

    step : BusStep
    step = bus_leaves w.bus.state conn

    n : ℕ
    n = length w.bus.state.joined

    d : Carried
    d = left c0 conn

    its : List Entry
    its = bus_entries c.ends c.bus.own c.bus.closings

    once : StandsOnce c.ends
    once = a.after.one

    tie : parties c.ends ≡ ends run
    tie = over_parties w.ends c.ends a.lasts ∙ a.tie

    r : Within (Under (length w.ends)) c
    r = subst (Within (Under (length w.ends))) (sym c_is)
        (ends_within (Under (length w.ends)) c0 conn
        (record { state = i.reach; due = due_below (DueBelow (Under (length w.ends))) w.bus.waiting.due a.due_none; told = subst (AllByRecursion (ClosedBelow (Under (length w.ends)))) (sym a.told.closings) tt }))

    place : place_of run (party_at w.ends conn) ≡ Some conn
    place = ap (place_of run) (ap whose there) ∙ ap (position (is_same e.who)) (sym a.tie) ∙ place_is w.ends conn e a.shape.one there

    does_ : bus_does run (state_of run) (takes_end (party_at w.ends conn)) ≡ step
    does_ = ap₂ bus_left i.state place

    end_walked : Walked run (takes_end (party_at w.ends conn) ∷ []) step.state (filter_map (delivery_in run The_bus) step.moves)
    end_walked =
        subst (λ (x : BusStep). Walked run (takes_end (party_at w.ends conn) ∷ []) x.state (filter_map (delivery_in run The_bus) x.moves)) does_ (walk_one run (takes_end (party_at w.ends conn)))

    closings : c.bus.closings ≡ course_closings n d
    closings = ap (λ (x : Carried). x.bus.closings) c_is ∙ closings_are n d ∙ ap (λ l. l ++ course_closings n d) a.told.closings

    of_those : AllByRecursion (IsOfEnd c.ends) (course_closings n d)
    of_those =
        subst (AllByRecursion (IsOfEnd c.ends)) closings
        (of_ends c.ends c.bus.own c.bus.closings (subst (λ k. AllByRecursion (ClosedBelow (Under k)) c.bus.closings) (sym a.lasts.size) r.told)
        (subst (λ (x : Carried). AllByRecursion ToldForRoom x.bus.closings) (sym c_is) (ends_settling c0 conn a.greeted.due a.told.closings).told) a.registry)

    course_walked : Walked (run ++ takes_end (party_at w.ends conn) ∷ []) (map writes its) c.bus.state (course_deliveries run n d)
    course_walked =
        subst (λ (cs : List Closing). Walked (run ++ takes_end (party_at w.ends conn) ∷ []) (map writes (bus_entries c.ends c.bus.own cs)) c.bus.state (course_deliveries run n d)) (sym closings)
        (subst (λ (x : Carried). Walked (run ++ takes_end (party_at w.ends conn) ∷ []) (map writes (bus_entries c.ends c.bus.own (course_closings n d))) x.bus.state (course_deliveries run n d)) (sym c_is)
        (walk_course run c.ends once tie n d (takes_end (party_at w.ends conn) ∷ []) c.bus.own (record { starts = refl; moves = λ who. refl }) end_walked.state of_those))

    all_walked : Walked run (takes_end (party_at w.ends conn) ∷ map writes its) c.bus.state (filter_map (delivery_in run The_bus) step.moves ++ course_deliveries run n d)
    all_walked =
        walk_both run (takes_end (party_at w.ends conn) ∷ []) (map writes its) step.state c.bus.state (filter_map (delivery_in run The_bus) step.moves) (course_deliveries run n d) end_walked course_walked

-- who is here behind it was not closed
open_now : (c : Carried) (leaver : ℕ → Type 0) → Aways c leaver → c.bus.waiting.due ≡ [] → (k : ℕ) (d : End) → end_at c.ends k ≡ Some d → d.standing ≡ here → Open k c
open_now c leaver a none k d h on = (by (list_any (is_of k) c.bus.closings) refl, ap (is_due k) none)
  where
    away_no : away ≡ here → ⊥
    away_no g = cc

    by : (b : Bool) → list_any (is_of k) c.bus.closings ≡ b → b ≡ false
    by false g = refl
    by true g = absurd (away_no (sym (closed_at (λ e. e.standing ≡ away) c.ends k c.bus.closings a.closed g d h) ∙ on))

pub took_tied : (run moves : List Act) (w : World) (conn : ℕ) (e : End) (said : Said) → end_at w.ends conn ≡ Some e → AllMoves moves → ((who : Party) → outs_of moves who ≡ false) → ((who : Party) → moved moves who false ≡ 0) → Greets w.bus.state conn said.message
    → with_serial (run ++ moves) e.who said.message.serial ≡ said.message ∷ [] → 2 ≤ length w.ends → ((k : ℕ) (x : End) → end_at w.ends k ≡ Some x → HasMarks x)
    → Around run w (carrying.takes (record { bus = w.bus; ends = w.ends }) conn e.who said) (got The_bus e.who said.message.serial ∷ []) → BusTie run w → DownsTied run w (λ k x. 0)
    → let d = bus_did w (got The_bus e.who said.message.serial ∷ []) (carrying.takes (record { bus = w.bus; ends = w.ends }) conn e.who said) in
    BusTie (run ++ (moves ++ map writes d.entries)) d.world × DownsTied (run ++ (moves ++ map writes d.entries)) d.world (λ k x. 0)
took_tied run moves w conn e said there m none none_moved greets sent_ two marks a i downs =
    let c0 : Carried = record { bus = w.bus; ends = w.ends } in
    let c : Carried = carrying.takes c0 conn e.who said in
    bus_tied run (moves ++ map writes (got The_bus e.who said.message.serial ∷ bus_entries c.ends c.bus.own c.bus.closings)) w (got The_bus e.who said.message.serial ∷ []) c (λ k. takes_letters k c0 conn e.who said) i downs marks two a.lasts
    (settled_quota (length w.bus.state.joined) (after_step c0 conn e.who said)) (took_walked run moves w conn e said c refl there m none none_moved greets sent_ a i)
    (λ k d h on. takes_fills k c0 conn e.who said (open_now c Nobody (takes_away c0 conn e.who said a.told.closings) a.rested k d h on))

pub ended_tied : (run : List Act) (w : World) (conn : ℕ) (e : End) → end_at w.ends conn ≡ Some e → 2 ≤ length w.ends → ((k : ℕ) (x : End) → end_at w.ends k ≡ Some x → HasMarks x)
    → Around run w (carrying.takes_end (record { bus = w.bus; ends = w.ends }) conn) [] → BusTie run w → DownsTied run w (λ k x. 0)
    → let d = bus_did w [] (carrying.takes_end (record { bus = w.bus; ends = w.ends }) conn) in
    BusTie (run ++ takes_end (party_at w.ends conn) ∷ map writes d.entries) d.world × DownsTied (run ++ takes_end (party_at w.ends conn) ∷ map writes d.entries) d.world (λ k x. 0)
ended_tied run w conn e there two marks a i downs =
    let c0 : Carried = record { bus = w.bus; ends = w.ends } in
    let c : Carried = carrying.takes_end c0 conn in
    bus_tied run (takes_end (party_at w.ends conn) ∷ map writes (bus_entries c.ends c.bus.own c.bus.closings)) w [] c (λ k. ends_letters k c0 conn) i downs marks two a.lasts
    (settled_quota (length w.bus.state.joined) (left c0 conn)) (ended_walked run w conn e c refl there a i)
    (λ k d h on. ends_fills k c0 conn (other k d h on) (open_now c (λ j. conn ≡ j) (ends_away c0 conn a.told.closings) a.rested k d h on))
  where
    away_no : away ≡ here → ⊥
    away_no g = cc

    other : (k : ℕ) (d : End) → end_at (carrying.takes_end (record { bus = w.bus; ends = w.ends }) conn).ends k ≡ Some d → d.standing ≡ here → k ≡ conn → ⊥
    other k d h on s = away_no (sym ((ends_away (record { bus = w.bus; ends = w.ends }) conn a.told.closings).left k (sym s) d h) ∙ on)
