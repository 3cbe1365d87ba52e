-- WHAT IS DELIVERED while the bus takes a message or an end: each step of its course hands on what its definitions say.
use Rattle.std.proofs.Common.{◌≡◌, ◌⊎◌, inl, inr, ℕ, zero, suc, ◌+◌, Bool, true, false, List, [], ◌∷◌, ◌++◌, length, map, Some, refl, sym, ap, ◌∙◌, subst, arith}
use Rattle.std.specs.Prelude.{filter, filter_map, slice_get, position, if◌then◌else◌}
use Rattle.std.specs.List.{AllByRecursion}
use Rattle.std.specs.FinMap as finmap
use Rattle.std.proofs.lemmas.List.{append-nil, append_assoc}
use Rattle.atspi_script_lines.specs.declared.line.Party.{Party}
use Rattle.atspi_script_lines.specs.declared.line.Party.TheVariants.{Bus as The_bus}
use Rattle.atspi_message.specs.Envelope.{Envelope}
use Rattle.atspi_names.specs.Owners.{own_name}
use Rattle.atspi_match.specs.declared.routing.closing.Why.{Why}
use Rattle.atspi_match.specs.declared.routing.closing.Why.TheVariants.{NotHello, Quota}
use Rattle.atspi_match.specs.routing.BusState.{BusState}
use Rattle.atspi_match.specs.routing.Members.{is_text}
use Rattle.atspi_match.specs.routing.Steps.{BusStep, bus_leaves}
use Rattle.atspi_match.specs.routing.Queues.{own_of, queue_of, is_due, without_queue}
use Rattle.atspi_trace.specs.Entry.{Entry, dropped}
use Rattle.atspi_trace.specs.World.{here, away, Said, Letter, End}
use Rattle.atspi_trace.specs.Ends.{party_at, end_at, with_end, leaves}
use Rattle.atspi_trace.specs.Carrying.{Carried, own_letter, letter_of, stepped, left, one_closed, settled, sent_by_bus, dropped_if}
use Rattle.atspi_headline.specs.Words.{Act, writes, ends, is_same, place_of}
use Rattle.atspi_headline.specs.Links.{moved, Delivery, delivery_in, delivered_after, deliveries, sizes, letters, is_to, sender_at, bus_does, bus_left}
use Rattle.atspi_trace_laws.proofs.OfOrder.Parties.{false_true, all_back}
use Rattle.atspi_trace_laws.proofs.OfOrder.Frame.{Over, with_cases}
use Rattle.atspi_trace_laws.proofs.OfOwn.Counting.{is_quota}
use Rattle.atspi_headline_laws.proofs.Joining.{parties}
use Rattle.atspi_headline_laws.proofs.Registering.{Stays, gathered_more, gathered_stays}
use Rattle.atspi_headline_links.proofs.Moved.{moved_more, moved_written}
use Rattle.atspi_headline_links.proofs.Courses.{first_closing, first_words, course, all_so_far}
use Rattle.atspi_headline_links.proofs.Gots.{downs, downs_of, SameDown}
use Rattle.atspi_headline_links.proofs.Sizes.{IsBegun}
use Rattle.atspi_headline_links.proofs.Routed.{AllIn}
use Rattle.atspi_headline_links.proofs.Speaking.{BusSo, Good, one_step, drop_does}
use Rattle.atspi_headline_links.proofs.Queues.{queue_left, due_of_rest}
use Rattle.atspi_headline_links.proofs.Handed.{DownTie, fold_tied, step_parties}

-- EACH END that is here and is not to be closed
abbrev pub FullTied : List Act → Carried → Type 0
FullTied run c = (k : ℕ) (e : End) → end_at c.ends k ≡ Some e → e.standing ≡ here → is_due k c.bus.waiting.due ≡ false
    → DownTie c.bus.quota (deliveries run) (moved run e.who false) (length (queue_of c.bus.waiting.queues k)) e

abbrev pub Distinct : List Party → Type 0
Distinct ps = (j k : ℕ) (p : Party) → slice_get ps j ≡ Some p → slice_get ps k ≡ Some p → j ≡ k

-- WHAT AN ACT DELIVERS
words_deliver : (es : List Envelope) → AllByRecursion (Stays delivered_after) (map writes (sent_by_bus es))
words_deliver [] = tt
words_deliver (e ∷ es) = ((λ before ds. append-nil ds), words_deliver es)

pub deliveries_are : (front : List Act) (act : Act) (s : BusState) (step : BusStep) → bus_does front s act ≡ step → BusSo front s
    → deliveries (front ++ act ∷ map writes (sent_by_bus (own_of step.moves))) ≡ deliveries front ++ filter_map (delivery_in front (sender_at act)) step.moves
deliveries_are front act s step does_so b =
    gathered_more delivered_after [] [] front (act ∷ map writes (sent_by_bus (own_of step.moves)))
    ∙ gathered_stays delivered_after (delivered_after front (deliveries front) act) (front ++ act ∷ []) (map writes (sent_by_bus (own_of step.moves))) (words_deliver (own_of step.moves))
    ∙ ap (λ g. deliveries front ++ filter_map (delivery_in front (sender_at act)) (bus_does front g act).moves) b.is
    ∙ ap (λ (x : BusStep). deliveries front ++ filter_map (delivery_in front (sender_at act)) x.moves) does_so

-- a step
pub spoken_full : (front : List Act) (act : Act) (s : BusState) (step : BusStep) (letter : Envelope → Letter) (c : Carried) → bus_does front s act ≡ step → BusSo front s → ((p : Party) (es : List Entry) → moved (act ∷ map writes es) p false ≡ 0)
    → ((m : Envelope) → (if is_text m.sender own_name then The_bus else sender_at act) ≡ (letter m).from) → ((m : Envelope) → m ≡ (letter m).said.message) → Distinct (ends front) → parties c.ends ≡ ends front → FullTied front c
    → FullTied (front ++ act ∷ map writes (sent_by_bus (own_of step.moves))) (stepped letter c step)
spoken_full front act s step letter c does_so b unmoved from_is message_is one same t k e h st not_due =
    let es : List Entry = sent_by_bus (own_of step.moves) in
    let tied = fold_tied front (sender_at act) letter c.bus.quota from_is message_is step.moves (deliveries front) (record { waiting = c.bus.waiting; ends = c.ends }) one same t k e h st not_due in
    let still : moved (front ++ act ∷ map writes es) e.who false ≡ moved front e.who false = moved_more e.who false front (act ∷ map writes es) ∙ plus (moved front e.who false) (moved (act ∷ map writes es) e.who false) (unmoved e.who es) in
    subst (λ n. DownTie c.bus.quota (deliveries (front ++ act ∷ map writes es)) n (length (queue_of (stepped letter c step).bus.waiting.queues k)) e) (sym still)
    (subst (λ ds. DownTie c.bus.quota ds (moved front e.who false) (length (queue_of (stepped letter c step).bus.waiting.queues k)) e) (sym (deliveries_are front act s step does_so b)) tied)
  where
    plus : (a n : ℕ) → n ≡ 0 → a + n ≡ a
    plus a n h = omega (arith, h)

pub fold_all : (letter : Envelope → Letter) (c : Carried) (step : BusStep) → parties (stepped letter c step).ends ≡ parties c.ends
fold_all letter c step = step_parties letter c.bus.quota step.moves (record { waiting = c.bus.waiting; ends = c.ends })

-- ends whose links from the bus stay
pub same_tie : (quota : ℕ) (ds : List Delivery) (mark waits : ℕ) (e d : End) → SameDown e d → DownTie quota ds mark waits e → DownTie quota ds mark waits d
same_tie quota ds mark waits e d s t = record {
  took = t.took;
  link = ap (λ p. letters (filter (is_to p) ds)) s.whose ∙ t.link ∙ ap (λ l. t.took ++ downs_of l) (sym s.down);
  marked = t.marked ∙ ap (λ n. sizes t.took + n) (sym s.mark);
  all_in = subst (λ p. AllIn quota [] (filter (is_to p) ds)) (sym s.whose) t.all_in;
  begun = subst (λ l. IsBegun d.down_moved (downs_of l)) (sym s.down) (subst (λ n. IsBegun n (downs e)) (sym s.mark) t.begun);
  queue = ap (λ n. waits + n) s.mark ∙ t.queue ∙ ap (λ l. sizes (downs_of l)) (sym s.down);
}

pub full_over : (run : List Act) (c : Carried) (es : List End) → Over SameDown c.ends es → FullTied run c → FullTied run (record c { ends = es })
full_over run c es o t k d h st not_due =
    let x = o.back k d h in
    subst (λ p. DownTie c.bus.quota (deliveries run) (moved run p false) (length (queue_of c.bus.waiting.queues k)) d) (sym x.2.whose)
    (same_tie c.bus.quota (deliveries run) (moved run x.0.who false) (length (queue_of c.bus.waiting.queues k)) x.0 d x.2 (t k x.0 x.1 (sym x.2.standing ∙ st) not_due))

-- one leaves: what waits for it is lost
not_away : away ≡ here → ⊥
not_away h = cc

without_full : (run : List Act) (c : Carried) (conn : ℕ) → FullTied run c → FullTied run (record { bus = record c.bus { waiting = without_queue c.bus.waiting conn }; ends = with_end conn leaves c.ends })
without_full run c conn t k e h st not_due = by (with_cases leaves c.ends conn k e h)
  where
    by : ((x : End) × (end_at c.ends k ≡ Some x) × (((k ≡ conn) × (e ≡ leaves x)) ⊎ ((k ≡ conn → ⊥) × (e ≡ x))))
        → DownTie c.bus.quota (deliveries run) (moved run e.who false) (length (queue_of (finmap.remove c.bus.waiting.queues conn) k)) e
    by x = of x.2
      where
        of : (((k ≡ conn) × (e ≡ leaves x.0)) ⊎ ((k ≡ conn → ⊥) × (e ≡ x.0))) → DownTie c.bus.quota (deliveries run) (moved run e.who false) (length (queue_of (finmap.remove c.bus.waiting.queues conn) k)) e
        of (inl g) = absurd (not_away (sym (ap (λ (y : End). y.standing) g.1) ∙ st))
        of (inr g) =
            subst (λ l. DownTie c.bus.quota (deliveries run) (moved run e.who false) (length l) e) (sym (queue_left c.bus.waiting.queues conn k g.0))
            (t k e (x.1 ∙ ap Some (sym g.1)) st (due_of_rest conn k c.bus.waiting.due g.0 not_due))

leave_parties : (conn : ℕ) (es : List End) → parties (with_end conn leaves es) ≡ parties es
leave_parties conn [] = refl
leave_parties zero (e ∷ es) = refl
leave_parties (suc conn) (e ∷ es) = ap (λ ps. e.who ∷ ps) (leave_parties conn es)

own_from : (m : Envelope) → (if is_text m.sender own_name then The_bus else The_bus) ≡ (own_letter m).from
own_from m = by (is_text m.sender own_name)
  where
    by : (b : Bool) → (if b then The_bus else The_bus) ≡ The_bus
    by true = refl
    by false = refl

pub left_parties : (c : Carried) (conn : ℕ) → parties (left c conn).ends ≡ parties c.ends
left_parties c conn =
    fold_all own_letter (record { bus = record c.bus { waiting = without_queue c.bus.waiting conn }; ends = with_end conn leaves c.ends }) (bus_leaves c.bus.state conn) ∙ leave_parties conn c.ends

pub left_full : (front : List Act) (act : Act) (c : Carried) (conn : ℕ) → bus_does front c.bus.state act ≡ bus_leaves c.bus.state conn → BusSo front c.bus.state → ((p : Party) (es : List Entry) → moved (act ∷ map writes es) p false ≡ 0)
    → sender_at act ≡ The_bus → Distinct (ends front) → parties c.ends ≡ ends front → FullTied front c → FullTied (front ++ act ∷ map writes (sent_by_bus (own_of (bus_leaves c.bus.state conn).moves))) (left c conn)
left_full front act c conn does_so b unmoved sender one same t =
    spoken_full front act c.bus.state (bus_leaves c.bus.state conn) own_letter (record { bus = record c.bus { waiting = without_queue c.bus.waiting conn }; ends = with_end conn leaves c.ends }) does_so b unmoved
    (λ m. ap (λ p. if is_text m.sender own_name then The_bus else p) sender ∙ own_from m) (λ m. refl) one (leave_parties conn c.ends ∙ same) (without_full front c conn t)

-- THE COURSE
map_both : (xs ys : List Entry) → map writes (xs ++ ys) ≡ map writes xs ++ map writes ys
map_both [] ys = refl
map_both (x ∷ xs) ys = ap (λ l. writes x ∷ l) (map_both xs ys)

one_parties : (c : Carried) (due : List (ℕ × Why)) → parties (one_closed c due).ends ≡ parties c.ends
one_parties c [] = refl
one_parties c (first ∷ rest) = left_parties c first.0

one_full : (all : List End) (c : Carried) (due : List (ℕ × Why)) (front : List Act) → AllByRecursion (Good all) (one_closed c due).bus.closings → BusSo front c.bus.state → ends front ≡ parties all → Distinct (parties all) → parties c.ends ≡ parties all → FullTied front c
    → FullTied (front ++ map writes (first_words all c due)) (one_closed c due)
one_full all c [] front g b known one same t = subst (λ l. FullTied l c) (sym (append-nil front)) t
one_full all c (first ∷ rest) front g b known one same t = by first.1 refl mine.room
  where
    mine : Good all (first_closing c first)
    mine = (all_back (Good all) c.bus.closings (first_closing c first ∷ []) g).0

    who : Party
    who = party_at all first.0

    place : place_of front who ≡ Some first.0
    place = ap (position (is_same who)) known ∙ mine.place

    by : (why : Why) → first.1 ≡ why → is_quota why ≡ true → FullTied (front ++ map writes (dropped_if who first.1 ++ sent_by_bus (own_of (bus_leaves c.bus.state first.0).moves))) (one_closed c (first ∷ rest))
    by NotHello h q = absurd (false_true q)
    by (Quota queued len) h q =
        subst (λ l. FullTied (front ++ map writes (l ++ sent_by_bus (own_of (bus_leaves c.bus.state first.0).moves))) (one_closed c (first ∷ rest))) (sym (ap (dropped_if who) h))
        (left_full front (writes (dropped who queued len)) c first.0 (drop_does front c.bus.state who queued len mine.other ∙ ap (bus_left c.bus.state) place) b (λ p es. moved_written p false es) refl
        (subst Distinct (sym known) one) (same ∙ sym known) t)

pub course_full : (all : List End) (n : ℕ) (c : Carried) (front : List Act) → AllByRecursion (Good all) (settled n c).bus.closings → BusSo front c.bus.state → ends front ≡ parties all → Distinct (parties all) → parties c.ends ≡ parties all → FullTied front c
    → FullTied (front ++ map writes (course all n c)) (settled n c)
course_full all zero c front g b known one same t = subst (λ l. FullTied l c) (sym (append-nil front)) t
course_full all (suc n) c front g b known one same t =
    let due : List (ℕ × Why) = c.bus.waiting.due in
    let d : Carried = one_closed c due in
    let so_far : AllByRecursion (Good all) d.bus.closings = all_so_far (Good all) n d g in
    let first = one_step all c due front so_far (b, known) in
    let next : FullTied (front ++ map writes (first_words all c due)) d = one_full all c due front so_far b known one same t in
    subst (λ l. FullTied l (settled n d))
    (append_assoc front (map writes (first_words all c due)) (map writes (course all n d)) ∙ ap (λ l. front ++ l) (sym (map_both (first_words all c due) (course all n d))))
    (course_full all n d (front ++ map writes (first_words all c due)) g first.0 first.1 one (one_parties c due ∙ same) next)

-- the letters of a message that the bus takes
pub letter_from : (who : Party) (said : Said) (m : Envelope) → (if is_text m.sender own_name then The_bus else who) ≡ (letter_of who said m).from
letter_from who said m = by (is_text m.sender own_name)
  where
    by : (b : Bool) → (if b then The_bus else who) ≡ (if b then own_letter m else record { from = who; said = record said { message = m } }).from
    by true = refl
    by false = refl

pub letter_message : (who : Party) (said : Said) (m : Envelope) → m ≡ (letter_of who said m).said.message
letter_message who said m = by (is_text m.sender own_name)
  where
    by : (b : Bool) → m ≡ (if b then own_letter m else record { from = who; said = record said { message = m } }).said.message
    by true = refl
    by false = refl
