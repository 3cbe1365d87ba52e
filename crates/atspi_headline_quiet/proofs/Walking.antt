-- WHAT THE BUS DOES ALONG A RUN, by the words of the run: its state, and its deliveries, act by act.
use Rattle.std.proofs.Common.{◌≡◌, ℕ, zero, suc, ◌+◌, Bool, true, false, List, [], ◌∷◌, ◌++◌, map, Option, None, Some, refl, sym, ap, ap₂, ◌∙◌, subst, arith}
use Rattle.std.specs.Prelude.{◌&&◌, ◌-◌, not, filter, filter_map, fold, option_map, position, slice_get, if◌then◌else◌}
use Rattle.std.specs.List.{AllByRecursion, cons_option}
use Rattle.std.proofs.lemmas.List.{append-nil, append_assoc}
use Rattle.atspi_message.specs.Envelope.{Envelope}
use Rattle.atspi_names.specs.Owners.{own_name}
use Rattle.atspi_script_lines.specs.declared.line.Party.{Party}
use Rattle.atspi_script_lines.specs.declared.line.Party.TheVariants.{Bus as The_bus, Registry, App, Reader}
use Rattle.atspi_match.specs.declared.routing.closing.Why.{Why}
use Rattle.atspi_match.specs.declared.routing.closing.Why.TheVariants.{NotHello, Quota}
use Rattle.atspi_match.specs.declared.routing.closing.Closing.{Closing}
use Rattle.atspi_match.specs.routing.BusState.{BusState}
use Rattle.atspi_match.specs.routing.Members.{is_text}
use Rattle.atspi_match.specs.routing.Steps.{Move, says, delivers, closes, BusStep, bus_leaves}
use Rattle.atspi_trace.specs.Entry.{Entry, dropped}
use Rattle.atspi_trace.specs.World.{Letter, End}
use Rattle.atspi_trace.specs.Ends.{same_party, whose, party_at, end_at}
use Rattle.atspi_trace.specs.Carrying.{Carried, one_closed, settled, dropped_if, sent_by_bus, is_upto, bus_entries}
use Rattle.atspi_headline.specs.Words.{Act, begins_line, moves_bytes, takes_end, writes, gathered, start_in, is_same, ends, place_of}
use Rattle.atspi_headline.specs.Links.{first_state, idle, bus_left, bus_does, state_after, is_same_way, moved_after, moved, Delivery, sender_at, delivery_to, delivery_in, delivered_after, deliveries, is_to}
use Rattle.atspi_trace_laws.proofs.OfOrder.Parties.{no_none, same_some, false_true, same-party}
use Rattle.atspi_trace_laws.proofs.OfNames.Places.{first_at, position_is}
use Rattle.atspi_trace_laws.proofs.OfOwn.Counting.{is_quota}
use Rattle.atspi_headline_laws.proofs.Reading.{same_who}
use Rattle.atspi_headline_laws.proofs.Registering.{gathered_more}
use Rattle.atspi_headline_laws.proofs.Words.{chosen_more}
use Rattle.atspi_headline_laws.proofs.Joining.{parties}
use Rattle.atspi_headline_quiet.proofs.Standing.{self_same}

-- HOW FAR A LINK WAS MOVED
moved_from : (who : Party) (up : Bool) (n : ℕ) (acts : List Act) → fold (moved_after who up) n acts ≡ n + fold (moved_after who up) 0 acts
moved_from who up n [] = none n
  where
    none : (n : ℕ) → n ≡ n + 0
    none n = omega arith
moved_from who up n (moves_bytes other way count ∷ acts) = by (is_same who other && is_same_way up way) (moved_from who up (n + count) acts) (moved_from who up (0 + count) acts) (moved_from who up n acts)
  where
    by : (b : Bool) → fold (moved_after who up) (n + count) acts ≡ (n + count) + fold (moved_after who up) 0 acts → fold (moved_after who up) (0 + count) acts ≡ (0 + count) + fold (moved_after who up) 0 acts
        → fold (moved_after who up) n acts ≡ n + fold (moved_after who up) 0 acts
        → fold (moved_after who up) (if b then n + count else n) acts ≡ n + fold (moved_after who up) (if b then 0 + count else 0) acts
    by true h g i = omega (arith, h, g)
    by false h g i = i
moved_from who up n (begins_line line ∷ acts) = moved_from who up n acts
moved_from who up n (takes_end other ∷ acts) = moved_from who up n acts
moved_from who up n (writes entry ∷ acts) = moved_from who up n acts

pub moved_more : (run acts : List Act) (who : Party) (up : Bool) → moved (run ++ acts) who up ≡ moved run who up + moved acts who up
moved_more [] acts who up = none (moved acts who up)
  where
    none : (n : ℕ) → n ≡ 0 + n
    none n = omega arith
moved_more (x ∷ run) acts who up =
    let more : fold (moved_after who up) (moved_after who up 0 x) (run ++ acts) ≡ moved_after who up 0 x + moved (run ++ acts) who up = moved_from who up (moved_after who up 0 x) (run ++ acts) in
    let here_ : fold (moved_after who up) (moved_after who up 0 x) run ≡ moved_after who up 0 x + moved run who up = moved_from who up (moved_after who up 0 x) run in
    let ih : moved (run ++ acts) who up ≡ moved run who up + moved acts who up = moved_more run acts who up in
    omega (arith, more, here_, ih)

pub moved_written : (es : List Entry) (who : Party) (up : Bool) → moved (map writes es) who up ≡ 0
moved_written [] who up = refl
moved_written (e ∷ es) who up = moved_written es who up

-- STATE AND DELIVERIES
abbrev pub state_of : List Act → BusState
state_of run = gathered state_after first_state [] run

pub record Walked (run acts : List Act) (s : BusState) (ds : List Delivery) : Type 0 where
  pub state : state_of (run ++ acts) ≡ s
  pub handed : deliveries (run ++ acts) ≡ deliveries run ++ ds

pub walk_one : (run : List Act) (act : Act) → Walked run (act ∷ []) (bus_does run (state_of run) act).state (filter_map (delivery_in run (sender_at act)) (bus_does run (state_of run) act).moves)
walk_one run act = record { state = gathered_more state_after first_state [] run (act ∷ []); handed = gathered_more delivered_after [] [] run (act ∷ []) }

walk_none : (run : List Act) → Walked run [] (state_of run) []
walk_none run = record { state = ap state_of (append-nil run); handed = ap deliveries (append-nil run) ∙ sym (append-nil (deliveries run)) }

pub walk_both : (run xs ys : List Act) (s t : BusState) (ds es : List Delivery) → Walked run xs s ds → Walked (run ++ xs) ys t es → Walked run (xs ++ ys) t (ds ++ es)
walk_both run xs ys s t ds es a b = record {
  state = ap state_of (sym (append_assoc run xs ys)) ∙ b.state;
  handed = ap deliveries (sym (append_assoc run xs ys)) ∙ b.handed ∙ ap (λ l. l ++ es) a.handed ∙ append_assoc (deliveries run) ds es;
}

-- acts in which the bus does nothing
abbrev pub IsIdle : Act → Type 0
IsIdle act = (before : List Act) (s : BusState) → bus_does before s act ≡ idle s

pub walk_idle : (run acts : List Act) → AllByRecursion IsIdle acts → Walked run acts (state_of run) []
walk_idle run [] a = walk_none run
walk_idle run (act ∷ acts) a =
    let step : bus_does run (state_of run) act ≡ idle (state_of run) = a.0 run (state_of run) in
    let one : Walked run (act ∷ []) (state_of run) [] = subst (λ (x : BusStep). Walked run (act ∷ []) x.state (filter_map (delivery_in run (sender_at act)) x.moves)) step (walk_one run act) in
    let rest : Walked (run ++ act ∷ []) acts (state_of (run ++ act ∷ [])) [] = walk_idle (run ++ act ∷ []) acts a.1 in
    walk_both run (act ∷ []) acts (state_of run) (state_of run) [] [] one (subst (λ s. Walked (run ++ act ∷ []) acts s []) one.state rest)

pub idle_words : (own : List Envelope) → AllByRecursion IsIdle (map writes (sent_by_bus own))
idle_words [] = tt
idle_words (e ∷ own) = ((λ before s. refl), idle_words own)

-- WHO AND WHERE: what a delivery says of the run alone are ends, and how far links were moved
pub record Alike (run acts : List Act) : Type 0 where
  pub starts : filter_map start_in acts ≡ []
  pub moves : (who : Party) → moved acts who false ≡ 0

same_ends : (run acts : List Act) → filter_map start_in acts ≡ [] → ends (run ++ acts) ≡ ends run
same_ends run acts none = ap (λ l. Registry ∷ l) (chosen_more start_in run acts ∙ ap (λ l. filter_map start_in run ++ l) none ∙ append-nil (filter_map start_in run))

same_marks : (run acts : List Act) (who : Party) → moved acts who false ≡ 0 → moved (run ++ acts) who false ≡ moved run who false
same_marks run acts who none = let all : moved (run ++ acts) who false ≡ moved run who false + moved acts who false = moved_more run acts who false in omega (arith, all, none)

same_delivery : (run acts : List Act) (who : Party) (move : Move) → Alike run acts → delivery_in (run ++ acts) who move ≡ delivery_in run who move
same_delivery run acts who (delivers place e) a =
    ap (λ l. option_map (delivery_to (run ++ acts) who e) (slice_get l place)) (same_ends run acts a.starts) ∙ by (slice_get (ends run) place)
  where
    by : (o : Option Party) → option_map (delivery_to (run ++ acts) who e) o ≡ option_map (delivery_to run who e) o
    by None = refl
    by (Some to) = ap (λ n. Some (record { to = to; from = if is_text e.sender own_name then The_bus else who; letter = e; mark = n })) (same_marks run acts to (a.moves to))
same_delivery run acts who (says e) a = refl
same_delivery run acts who (closes conn) a = refl

pub same_deliveries : (run acts : List Act) (who : Party) (moves : List Move) → Alike run acts → filter_map (delivery_in (run ++ acts) who) moves ≡ filter_map (delivery_in run who) moves
same_deliveries run acts who [] a = refl
same_deliveries run acts who (move ∷ moves) a = ap₂ cons_option (same_delivery run acts who move a) (same_deliveries run acts who moves a)

-- THE CLOSINGS
abbrev pub first_closings : Carried → List (ℕ × Why) → List Closing
first_closings c [] = []
first_closings c (first ∷ rest) = record { conn = first.0; why = first.1; after = c.bus.state.next - 1 } ∷ []

abbrev pub course_closings : ℕ → Carried → List Closing
course_closings zero c = []
course_closings (suc n) c = first_closings c c.bus.waiting.due ++ course_closings n (one_closed c c.bus.waiting.due)

pub closings_are : (n : ℕ) (c : Carried) → (settled n c).bus.closings ≡ c.bus.closings ++ course_closings n c
closings_are zero c = sym (append-nil c.bus.closings)
closings_are (suc n) c =
    let d : Carried = one_closed c c.bus.waiting.due in
    closings_are n d ∙ ap (λ l. l ++ course_closings n d) (by c.bus.waiting.due) ∙ append_assoc c.bus.closings (first_closings c c.bus.waiting.due) (course_closings n d)
  where
    by : (due : List (ℕ × Why)) → (one_closed c due).bus.closings ≡ c.bus.closings ++ first_closings c due
    by [] = sym (append-nil c.bus.closings)
    by (first ∷ rest) = refl

-- the deliveries of the closings, by the run before them
abbrev pub first_deliveries : List Act → Carried → List (ℕ × Why) → List Delivery
first_deliveries run c [] = []
first_deliveries run c (first ∷ rest) = filter_map (delivery_in run The_bus) (bus_leaves c.bus.state first.0).moves

abbrev pub course_deliveries : List Act → ℕ → Carried → List Delivery
course_deliveries run zero c = []
course_deliveries run (suc n) c = first_deliveries run c c.bus.waiting.due ++ course_deliveries run n (one_closed c c.bus.waiting.due)

-- of each closing its end is there, and it is no registry; it is told
pub record IsOfEnd (es : List End) (c : Closing) : Type 0 where
  pub e : End
  pub there : end_at es c.conn ≡ Some e
  pub other : same_party e.who Registry ≡ false
  pub told : is_quota c.why ≡ true

-- each party stands once among the ends
abbrev pub StandsOnce : List End → Type 0
StandsOnce es = (j k : ℕ) (d e : End) → end_at es j ≡ Some d → end_at es k ≡ Some e → d.who ≡ e.who → j ≡ k

first_is : (es : List End) (k : ℕ) (e : End) → StandsOnce es → end_at es k ≡ Some e → first_at (is_same e.who) (parties es) ≡ Some k
first_is [] zero e once h = absurd (no_none e h)
first_is [] (suc k) e once h = absurd (no_none e h)
first_is (x ∷ xs) zero e once h = ap (λ b. if b then Some 0 else option_map suc (first_at (is_same e.who) (parties xs))) (ap (λ (y : End). is_same e.who y.who) (same_some x e h) ∙ self_same e.who)
first_is (x ∷ xs) (suc k) e once h =
    ap (λ b. if b then Some 0 else option_map suc (first_at (is_same e.who) (parties xs))) differ
    ∙ ap (option_map suc) (first_is xs k e (λ i j a b g i' s. less i j (once (suc i) (suc j) a b g i' s)) h)
  where
    less : (i j : ℕ) → suc i ≡ suc j → i ≡ j
    less i j g = omega (arith, g)

    never : 0 ≡ suc k → ⊥
    never g = omega (arith, g)

    at : (b : Bool) → is_same e.who x.who ≡ b → b ≡ false
    at false g = refl
    at true g = absurd (never (once 0 (suc k) x e refl h (sym (same-party e.who x.who (sym (same_who e.who x.who) ∙ g)))))

    differ : is_same e.who x.who ≡ false
    differ = at (is_same e.who x.who) refl

pub place_is : (es : List End) (k : ℕ) (e : End) → StandsOnce es → end_at es k ≡ Some e → position (is_same e.who) (parties es) ≡ Some k
place_is es k e once h = position_is (is_same e.who) (parties es) ∙ first_is es k e once h

drop_does : (run : List Act) (s : BusState) (who : Party) (queued len : ℕ) → same_party who Registry ≡ false → bus_does run s (writes (dropped who queued len)) ≡ bus_left s (place_of run who)
drop_does run s Registry queued len h = absurd (false_true (sym h))
drop_does run s The_bus queued len h = refl
drop_does run s (App a) queued len h = refl
drop_does run s (Reader r) queued len h = refl

-- the words of the closings
module _ (run : List Act) (es : List End) (once : StandsOnce es) (tie : parties es ≡ ends run) where
  alike_words : (acts : List Act) (own : List Envelope) → Alike run acts → Alike run (acts ++ map writes (sent_by_bus own))
  alike_words acts own a = record {
    starts = chosen_more start_in acts (map writes (sent_by_bus own)) ∙ ap₂ (λ x y. x ++ y) a.starts (no_starts own);
    moves = λ who. let all : moved (acts ++ map writes (sent_by_bus own)) who false ≡ moved acts who false + moved (map writes (sent_by_bus own)) who false = moved_more acts (map writes (sent_by_bus own)) who false in
        let one : moved acts who false ≡ 0 = a.moves who in let two : moved (map writes (sent_by_bus own)) who false ≡ 0 = moved_written (sent_by_bus own) who false in omega (arith, all, one, two);
  }
    where
      no_starts : (own : List Envelope) → filter_map start_in (map writes (sent_by_bus own)) ≡ []
      no_starts [] = refl
      no_starts (e ∷ own) = no_starts own

  alike_drop : (acts : List Act) (who : Party) (queued len : ℕ) → Alike run acts → Alike run (acts ++ writes (dropped who queued len) ∷ [])
  alike_drop acts who queued len a = record {
    starts = chosen_more start_in acts (writes (dropped who queued len) ∷ []) ∙ ap (λ l. l ++ []) a.starts;
    moves = λ other. let all : moved (acts ++ writes (dropped who queued len) ∷ []) other false ≡ moved acts other false + 0 = moved_more acts (writes (dropped who queued len) ∷ []) other false in
        let one : moved acts other false ≡ 0 = a.moves other in omega (arith, all, one);
  }

  -- one that is dropped leaves
  walk_drop : (acts : List Act) (s : BusState) (conn : ℕ) (e : End) (queued len : ℕ) → Alike run acts → state_of (run ++ acts) ≡ s → end_at es conn ≡ Some e → same_party e.who Registry ≡ false
      → Walked (run ++ acts) (writes (dropped e.who queued len) ∷ []) (bus_leaves s conn).state (filter_map (delivery_in run The_bus) (bus_leaves s conn).moves)
  walk_drop acts s conn e queued len a is there other =
      let place : place_of (run ++ acts) e.who ≡ Some conn = ap (position (is_same e.who)) (same_ends run acts a.starts ∙ sym tie) ∙ place_is es conn e once there in
      let does_ : bus_does (run ++ acts) (state_of (run ++ acts)) (writes (dropped e.who queued len)) ≡ bus_leaves s conn =
      drop_does (run ++ acts) (state_of (run ++ acts)) e.who queued len other ∙ ap₂ bus_left is place in
      subst (Walked (run ++ acts) (writes (dropped e.who queued len) ∷ []) (bus_leaves s conn).state) (same_deliveries run acts The_bus (bus_leaves s conn).moves a)
      (subst (λ (x : BusStep). Walked (run ++ acts) (writes (dropped e.who queued len) ∷ []) x.state (filter_map (delivery_in (run ++ acts) The_bus) x.moves)) does_ (walk_one (run ++ acts) (writes (dropped e.who queued len))))

  walk_words : (acts : List Act) (own : List Envelope) (s : BusState) → state_of (run ++ acts) ≡ s → Walked (run ++ acts) (map writes (sent_by_bus own)) s []
  walk_words acts own s is = subst (λ t. Walked (run ++ acts) (map writes (sent_by_bus own)) t []) is (walk_idle (run ++ acts) (map writes (sent_by_bus own)) (idle_words own))

  abbrev Course : ℕ → Type 0
  Course n =
      (d : Carried) (acts : List Act) (own : List Envelope) → Alike run acts → state_of (run ++ acts) ≡ d.bus.state → AllByRecursion (IsOfEnd es) (course_closings n d)
      → Walked (run ++ acts) (map writes (bus_entries es own (course_closings n d))) (settled n d).bus.state (course_deliveries run n d)

  pub walk_course : (n : ℕ) (c : Carried) (acts : List Act) (own : List Envelope) → Alike run acts → state_of (run ++ acts) ≡ c.bus.state → AllByRecursion (IsOfEnd es) (course_closings n c)
      → Walked (run ++ acts) (map writes (bus_entries es own (course_closings n c))) (settled n c).bus.state (course_deliveries run n c)
  walk_course zero c acts own a is all = walk_words acts own c.bus.state is
  walk_course (suc n) c acts own a is all = by (λ d acts_ own_ a_ is_ all_. walk_course n d acts_ own_ a_ is_ all_) c.bus.waiting.due all
    where
      map_more : (xs ys : List Entry) → map writes (xs ++ ys) ≡ map writes xs ++ map writes ys
      map_more [] ys = refl
      map_more (x ∷ xs) ys = ap (λ l. writes x ∷ l) (map_more xs ys)

      by : Course n → (due : List (ℕ × Why)) → AllByRecursion (IsOfEnd es) (first_closings c due ++ course_closings n (one_closed c due))
          → Walked (run ++ acts) (map writes (bus_entries es own (first_closings c due ++ course_closings n (one_closed c due)))) (settled n (one_closed c due)).bus.state (first_deliveries run c due ++ course_deliveries run n (one_closed c due))
      by ih [] all_ = ih c acts own a is all_
      by ih (first ∷ rest) all_ = goes first.1 all_.0.told
        where
          d : Carried
          d = one_closed c (first ∷ rest)

          after : ℕ
          after = c.bus.state.next - 1

          x : End
          x = all_.0.e

          mine : party_at es first.0 ≡ x.who
          mine = ap whose all_.0.there

          front : List Entry
          front = sent_by_bus (filter (is_upto after) own)

          back : List Envelope
          back = filter (λ e. not (is_upto after e)) own

          later : List Entry
          later = bus_entries es back (course_closings n d)

          goes : (why : Why) → is_quota why ≡ true
              → Walked (run ++ acts) (map writes (front ++ (dropped_if (party_at es first.0) why ++ (if same_party (party_at es first.0) Registry then [] else later)))) (settled n d).bus.state
              (filter_map (delivery_in run The_bus) (bus_leaves c.bus.state first.0).moves ++ course_deliveries run n d)
          goes NotHello q = absurd (false_true q)
          goes (Quota queued len) q =
              let words : List Act = map writes front in
              let drop : List Act = writes (dropped x.who queued len) ∷ [] in
              let a1 : Alike run (acts ++ words) = alike_words acts (filter (is_upto after) own) a in
              let a2 : Alike run ((acts ++ words) ++ drop) = alike_drop (acts ++ words) x.who queued len a1 in
              let w1 : Walked (run ++ acts) words c.bus.state [] = walk_words acts (filter (is_upto after) own) c.bus.state is in
              let is1 : state_of (run ++ (acts ++ words)) ≡ c.bus.state = ap state_of (sym (append_assoc run acts words)) ∙ w1.state in
              let w2 : Walked (run ++ (acts ++ words)) drop (bus_leaves c.bus.state first.0).state (filter_map (delivery_in run The_bus) (bus_leaves c.bus.state first.0).moves) =
              walk_drop (acts ++ words) c.bus.state first.0 x queued len a1 is1 all_.0.there all_.0.other in
              let is2 : state_of (run ++ ((acts ++ words) ++ drop)) ≡ d.bus.state = ap state_of (sym (append_assoc run (acts ++ words) drop)) ∙ w2.state in
              let w3 : Walked (run ++ ((acts ++ words) ++ drop)) (map writes later) (settled n d).bus.state (course_deliveries run n d) = ih d ((acts ++ words) ++ drop) back a2 is2 all_.1 in
              let w23 : Walked (run ++ (acts ++ words)) (drop ++ map writes later) (settled n d).bus.state (filter_map (delivery_in run The_bus) (bus_leaves c.bus.state first.0).moves ++ course_deliveries run n d) =
              walk_both (run ++ (acts ++ words)) drop (map writes later) (bus_leaves c.bus.state first.0).state (settled n d).bus.state _ (course_deliveries run n d) w2
              (subst (λ r. Walked r (map writes later) (settled n d).bus.state (course_deliveries run n d)) (sym (append_assoc run (acts ++ words) drop)) w3) in
              let w123 : Walked (run ++ acts) (words ++ (drop ++ map writes later)) (settled n d).bus.state (filter_map (delivery_in run The_bus) (bus_leaves c.bus.state first.0).moves ++ course_deliveries run n d) =
              walk_both (run ++ acts) words (drop ++ map writes later) c.bus.state (settled n d).bus.state [] _ w1
              (subst (λ r. Walked r (drop ++ map writes later) (settled n d).bus.state (filter_map (delivery_in run The_bus) (bus_leaves c.bus.state first.0).moves ++ course_deliveries run n d)) (sym (append_assoc run acts words)) w23) in
              let text : map writes (front ++ (dropped (party_at es first.0) queued len ∷ (if same_party (party_at es first.0) Registry then [] else later))) ≡ words ++ (drop ++ map writes later) =
              map_more front (dropped (party_at es first.0) queued len ∷ (if same_party (party_at es first.0) Registry then [] else later))
              ∙ ap (λ p. words ++ (writes (dropped p queued len) ∷ map writes (if same_party p Registry then [] else later))) mine
              ∙ ap (λ b. words ++ (writes (dropped x.who queued len) ∷ map writes (if b then [] else later))) all_.0.other in
              subst (λ l. Walked (run ++ acts) l (settled n d).bus.state (filter_map (delivery_in run The_bus) (bus_leaves c.bus.state first.0).moves ++ course_deliveries run n d)) (sym text) w123

-- WHAT IS DELIVERED TO ONE, as letters
abbrev pub pair : Letter → Party × Envelope
pair l = (l.from, l.said.message)

abbrev pub to_one : Party → List Delivery → List Delivery
to_one who ds = filter (is_to who) ds

pub to_more : (who : Party) (xs ys : List Delivery) → to_one who (xs ++ ys) ≡ to_one who xs ++ to_one who ys
to_more who [] ys = refl
to_more who (x ∷ xs) ys = by (is_to who x) (to_more who xs ys)
  where
    by : (b : Bool) → to_one who (xs ++ ys) ≡ to_one who xs ++ to_one who ys → (if b then x ∷ to_one who (xs ++ ys) else to_one who (xs ++ ys)) ≡ (if b then x ∷ to_one who xs else to_one who xs) ++ to_one who ys
    by true h = ap (λ l. x ∷ l) h
    by false h = h
