-- The bus's own messages on their way are what the trace tells, as long as the registry lives.
use Rattle.std.proofs.Common.{◌≡◌, ◌⊎◌, inl, inr, ℕ, zero, suc, ◌+◌, ◌<◌, ◌≤◌, Bool, true, false, List, [], ◌∷◌, ◌++◌, length, map, Option, None, Some, refl, sym, ap, ◌∙◌, subst, arith}
use Rattle.std.specs.Prelude.{◌==◌, ◌||◌, nat_le, not, filter, flat_map, if◌then◌else◌}
use Rattle.std.specs.List.{AllByRecursion, list_any}
use Rattle.std.proofs.lemmas.Bool.{eq-eqb, ne_eqb, leb-true, leb-false}
use Rattle.atspi_script_lines.specs.declared.line.Party.{Party}
use Rattle.atspi_script_lines.specs.declared.line.Party.TheVariants.{Bus as The_bus, Registry}
use Rattle.atspi_message.specs.Envelope.{Envelope}
use Rattle.atspi_names.specs.Owners.{Owners, own_name, after_gone}
use Rattle.atspi_match.specs.RuleIndex.{without_rules}
use Rattle.atspi_match.specs.declared.routing.closing.Why.{Why}
use Rattle.atspi_match.specs.declared.routing.closing.Why.TheVariants.{NotHello, Quota}
use Rattle.atspi_match.specs.declared.routing.closing.Closing.{Closing}
use Rattle.atspi_match.specs.routing.BusState.{BusState, unique_of, calls_without}
use Rattle.atspi_match.specs.routing.Members.{is_text}
use Rattle.atspi_match.specs.routing.OwnMessages.{numbered}
use Rattle.atspi_match.specs.routing.Queues.{without_queue, own_of}
use Rattle.atspi_match.specs.routing.Routing.{receivers}
use Rattle.atspi_match.specs.routing.Steps.{Move, says, delivers, closes, BusStep, handed, speaks, farewell, bus_takes, bus_leaves}
use Rattle.atspi_trace.specs.Entry.{Entry}
use Rattle.atspi_trace.specs.Rules.{rule_in}
use Rattle.atspi_trace.specs.World.{Said, Letter, End}
use Rattle.atspi_trace.specs.Ends.{same_party, party_at, with_end, put_down, taken_up, leaves}
use Rattle.atspi_trace.specs.Carrying.{Carried, own_letter, letter_of, stepped, left, one_closed, settled, named, with_name, takes, takes_end, is_upto, dropped_if, sent_by_bus, bus_entries}
use Rattle.atspi_trace_laws.specs.laws.Words.{messages, with_serial, stops_it}
use Rattle.atspi_trace_laws.proofs.OfOrder.Parties.{same-party, false_true, all_append, all_front, all_back}
use Rattle.atspi_trace_laws.proofs.OfOrder.Frame.{Over, IsOrder, over_same, over_both, over_with}
use Rattle.atspi_trace_laws.proofs.OfOrder.Each.{all_map}
use Rattle.atspi_trace_laws.proofs.OfSerials.Serial.{messages_more}
use Rattle.atspi_trace_laws.proofs.OfLinks.Ups.{From}
use Rattle.atspi_trace_laws.proofs.OfTaken.Handing.{HandsOn, stepped_put}
use Rattle.atspi_trace_laws.proofs.OfOwn.Doing.{Doing, says_, hands_, closes_, doing_of}
use Rattle.atspi_trace_laws.proofs.OfOwn.Counting.{is_quota, ClosingFine}
use Rattle.atspi_trace_laws.proofs.OfOwn.Writing.{IsFirst}
use Rattle.atspi_trace_laws.proofs.OfDelivered.Bounds.{NoneIsBus}

-- A MESSAGE AMONG OTHERS
abbrev pub IsAmong : List Envelope → Envelope → Type 0
IsAmong all m = with_serial m.serial all ≡ Some m

above : (n : ℕ) (xs : List Envelope) → From n xs → AllByRecursion (λ (m : Envelope). n ≤ m.serial) xs
above n [] f = tt
above n (x ∷ xs) f = (first (f.0), all_map (λ (m : Envelope). (n + 1) ≤ m.serial) (λ (m : Envelope). n ≤ m.serial) xs (λ m h. lower m.serial h) (above (n + 1) xs f.1))
  where
    first : x.serial ≡ n → n ≤ x.serial
    first h = omega (arith, h)

    lower : (k : ℕ) → (n + 1) ≤ k → n ≤ k
    lower k h = omega (arith, h)

both_all : {X : Type 0} (P Q : X → Type 0) (xs : List X) → AllByRecursion P xs → AllByRecursion Q xs → AllByRecursion (λ x. P x × Q x) xs
both_all P Q [] a b = tt
both_all P Q (x ∷ xs) a b = ((a.0, b.0), both_all P Q xs a.1 b.1)

pub from_among : (n : ℕ) (xs : List Envelope) → From n xs → AllByRecursion (IsAmong xs) xs
from_among n [] f = tt
from_among n (x ∷ xs) f = (
  ap (λ b. if b then Some x else with_serial x.serial xs) (eq-eqb x.serial x.serial refl),
  all_map (λ m. ((n + 1) ≤ m.serial) × IsAmong xs m) (IsAmong (x ∷ xs)) xs (λ m h. later m h.0 h.1) (both_all (λ (m : Envelope). (n + 1) ≤ m.serial) (IsAmong xs) xs (above (n + 1) xs f.1) (from_among (n + 1) xs f.1)),
)
  where
    differ : (m : Envelope) → (n + 1) ≤ m.serial → x.serial ≡ n → x.serial ≡ m.serial → ⊥
    differ m h at same = absurd (omega (arith, h, at, same))

    later : (m : Envelope) → (n + 1) ≤ m.serial → IsAmong xs m → IsAmong (x ∷ xs) m
    later m h g = ap (λ b. if b then Some x else with_serial m.serial xs) (ne_eqb x.serial m.serial (differ m h f.0)) ∙ g

-- WHAT IS PUT ON LINKS
abbrev pub OwnIs : List Envelope → Letter → Type 0
OwnIs all letter = letter.from ≡ The_bus → IsAmong all letter.said.message

abbrev pub OwnAre : List Envelope → End → Type 0
OwnAre all e = AllByRecursion (OwnIs all) e.down

abbrev pub KeepsOwn : List Envelope → End → End → Type 0
KeepsOwn all e d = OwnAre all e → OwnAre all d

pub keeping_own : (all : List Envelope) → IsOrder (KeepsOwn all)
keeping_own all = record { same = λ e a. a; both = λ e d c f g a. g (f a) }

put_ : (all : List Envelope) (l : Letter) → OwnIs all l → (e : End) → KeepsOwn all e (put_down l e)
put_ all l b e a = all_append (OwnIs all) e.down (l ∷ []) a (b, tt)

leave_ : (all : List Envelope) (e : End) → KeepsOwn all e (leaves e)
leave_ all e a = tt

own_put : (all : List Envelope) (m : Envelope) → IsAmong all m → (e : End) → KeepsOwn all e (put_down (own_letter m) e)
own_put all m h e = put_ all (own_letter m) (λ is. h) e

-- what is handed on is said, or is of another
abbrev pub Comes : List Envelope → Envelope → Type 0
Comes all m = IsAmong all m ⊎ (is_text m.sender own_name ≡ false)

each_handed : (P : Envelope → Type 0) (e : Envelope) (conns : List ℕ) → P e → AllByRecursion (HandsOn P) (map (λ c. delivers c e) conns)
each_handed P e [] p = tt
each_handed P e (c ∷ cs) p = (p, each_handed P e cs p)

each_said : (P : Envelope → Type 0) (s : BusState) (es : List Envelope) → AllByRecursion P es → AllByRecursion (HandsOn P) (flat_map (λ e. says e ∷ handed s e) es)
each_said P s [] a = tt
each_said P s (e ∷ es) a = (tt, all_append (HandsOn P) (handed s e) (flat_map (λ m. says m ∷ handed s m) es) (each_handed P e (receivers s e) a.0) (each_said P s es a.1))

not_own : (owners : Owners) (conn : ℕ) (sender : Option (List ℕ)) → NoneIsBus owners → sender ≡ unique_of owners conn → is_text sender own_name ≡ false
not_own owners conn None none h = refl
not_own owners conn (Some name) none h = none conn name (sym h)

own_append : (xs ys : List Move) → own_of (xs ++ ys) ≡ own_of xs ++ own_of ys
own_append [] ys = refl
own_append (says e ∷ xs) ys = ap (λ l. e ∷ l) (own_append xs ys)
own_append (delivers conn e ∷ xs) ys = own_append xs ys
own_append (closes conn ∷ xs) ys = own_append xs ys

own_handed : (e : Envelope) (conns : List ℕ) → own_of (map (λ c. delivers c e) conns) ≡ []
own_handed e [] = refl
own_handed e (c ∷ cs) = own_handed e cs

own_said : (s : BusState) (es : List Envelope) → own_of (flat_map (λ e. says e ∷ handed s e) es) ≡ es
own_said s [] = refl
own_said s (e ∷ es) =
    ap (λ l. e ∷ l)
    (own_append (handed s e) (flat_map (λ m. says m ∷ handed s m) es) ∙ ap (λ l. l ++ own_of (flat_map (λ m. says m ∷ handed s m) es)) (own_handed e (receivers s e)) ∙ own_said s es)

speaks_among : (all : List Envelope) (s : BusState) (es : List Envelope) → AllByRecursion (IsAmong all) (own_of (speaks s es).moves) → AllByRecursion (HandsOn (IsAmong all)) (speaks s es).moves
speaks_among all s es a = each_said (IsAmong all) s (numbered s.next es) (subst (AllByRecursion (IsAmong all)) (own_said s (numbered s.next es)) a)

among_comes : (all : List Envelope) (move : Move) → HandsOn (IsAmong all) move → HandsOn (Comes all) move
among_comes all (delivers conn m) h = inl h
among_comes all (says m) h = tt
among_comes all (closes conn) h = tt

doing_comes : (all : List Envelope) (s : BusState) (conn : ℕ) (step : BusStep) → NoneIsBus s.owners → Doing s conn step → AllByRecursion (IsAmong all) (own_of step.moves) → AllByRecursion (HandsOn (Comes all)) step.moves
doing_comes all s conn step none (says_ t es next stay new is) a =
    subst (λ (x : BusStep). AllByRecursion (HandsOn (Comes all)) x.moves) (sym is)
    (all_map (HandsOn (IsAmong all)) (HandsOn (Comes all)) (speaks t es).moves (among_comes all) (speaks_among all t es (subst (λ (x : BusStep). AllByRecursion (IsAmong all) (own_of x.moves)) is a)))
doing_comes all s conn step none (hands_ calls e sender is) a =
    subst (λ (x : BusStep). AllByRecursion (HandsOn (Comes all)) x.moves) (sym is) (each_handed (Comes all) e (receivers s e) (inr (not_own s.owners conn e.sender none sender)))
doing_comes all s conn step none (closes_ nobody is) a = subst (λ (x : BusStep). AllByRecursion (HandsOn (Comes all)) x.moves) (sym is) (tt, tt)

own_puts : (all : List Envelope) (move : Move) → HandsOn (IsAmong all) move → HandsOn (λ m. (e : End) → KeepsOwn all e (put_down (own_letter m) e)) move
own_puts all (delivers conn m) h = own_put all m h
own_puts all (says m) h = tt
own_puts all (closes conn) h = tt

taken_puts : (all : List Envelope) (who : Party) (m : Said) → (who ≡ The_bus → ⊥) → (move : Move) → HandsOn (Comes all) move → HandsOn (λ x. (e : End) → KeepsOwn all e (put_down (letter_of who m x) e)) move
taken_puts all who m other (says x) r = tt
taken_puts all who m other (closes conn) r = tt
taken_puts all who m other (delivers conn x) r = λ e. by (is_text x.sender own_name) refl r e
  where
    by : (b : Bool) → is_text x.sender own_name ≡ b → Comes all x → (e : End) → KeepsOwn all e (put_down (if b then own_letter x else record { from = who; said = record m { message = x } }) e)
    by false g c e = put_ all (record { from = who; said = record m { message = x } }) (λ is. absurd (other is)) e
    by true g (inl c) e = own_put all x c e
    by true g (inr c) e = absurd (false_true (sym c ∙ g))

-- A CONNECTION LEAVES
left_state : BusState → ℕ → BusState
left_state s conn = record s {
  joined = filter (λ c. not (c == conn)) s.joined;
  owners = after_gone s.owners conn;
  rules = without_rules conn s.rules;
  calls = calls_without conn s.calls;
}

leaves_among : (all : List Envelope) (s : BusState) (conn : ℕ) → AllByRecursion (IsAmong all) (own_of (bus_leaves s conn).moves) → AllByRecursion (HandsOn (IsAmong all)) (bus_leaves s conn).moves
unfolding left_state
leaves_among all s conn a = speaks_among all (left_state s conn) (farewell s (after_gone s.owners conn) conn (unique_of s.owners conn)) a

left_own : (all : List Envelope) (c : Carried) (conn : ℕ) → AllByRecursion (IsAmong all) (own_of (bus_leaves c.bus.state conn).moves) → Over (KeepsOwn all) c.ends (left c conn).ends
left_own all c conn a =
    over_both (KeepsOwn all) (keeping_own all) c.ends (with_end conn leaves c.ends) _ (over_with (KeepsOwn all) (keeping_own all) leaves (leave_ all) conn c.ends)
    (stepped_put (KeepsOwn all) (keeping_own all) own_letter (record { bus = record c.bus { waiting = without_queue c.bus.waiting conn }; ends = with_end conn leaves c.ends }) (bus_leaves c.bus.state conn)
    (all_map (HandsOn (IsAmong all)) (HandsOn (λ m. (e : End) → KeepsOwn all e (put_down (own_letter m) e))) (bus_leaves c.bus.state conn).moves (own_puts all) (leaves_among all c.bus.state conn a)))

one_own : (all : List Envelope) (c : Carried) (due : List (ℕ × Why)) → AllByRecursion (IsAmong all) (one_closed c due).bus.own → Over (KeepsOwn all) c.ends (one_closed c due).ends
one_own all c [] a = over_same (KeepsOwn all) (keeping_own all) c.ends
one_own all c (first ∷ rest) a = left_own all c first.0 (all_back (IsAmong all) c.bus.own (own_of (bus_leaves c.bus.state first.0).moves) a)

one_front : (P : Envelope → Type 0) (c : Carried) (due : List (ℕ × Why)) → AllByRecursion P (one_closed c due).bus.own → AllByRecursion P c.bus.own
one_front P c [] a = a
one_front P c (first ∷ rest) a = all_front P c.bus.own (own_of (bus_leaves c.bus.state first.0).moves) a

settled_front : (P : Envelope → Type 0) (rounds : ℕ) (c : Carried) → AllByRecursion P (settled rounds c).bus.own → AllByRecursion P c.bus.own
settled_front P zero c a = a
settled_front P (suc rounds) c a = one_front P c c.bus.waiting.due (settled_front P rounds (one_closed c c.bus.waiting.due) a)

settled_own : (all : List Envelope) (rounds : ℕ) (c : Carried) → AllByRecursion (IsAmong all) (settled rounds c).bus.own → Over (KeepsOwn all) c.ends (settled rounds c).ends
settled_own all zero c a = over_same (KeepsOwn all) (keeping_own all) c.ends
settled_own all (suc rounds) c a =
    let d : Carried = one_closed c c.bus.waiting.due in
    over_both (KeepsOwn all) (keeping_own all) c.ends d.ends (settled rounds d).ends (one_own all c c.bus.waiting.due (settled_front (IsAmong all) rounds d a)) (settled_own all rounds d a)

-- THE BUS TAKES A MESSAGE, OR AN END
pub takes_own : (all : List Envelope) (c : Carried) (conn : ℕ) (who : Party) (m : Said) → NoneIsBus c.bus.state.owners → (who ≡ The_bus → ⊥) → AllByRecursion (IsAmong all) (takes c conn who m).bus.own
    → Over (KeepsOwn all) c.ends (takes c conn who m).ends
takes_own all c conn who m none other a =
    let step : BusStep = bus_takes c.bus.state conn m.message (rule_in m.message) in
    let x : Carried = record c { ends = with_end conn taken_up c.ends } in
    let b : Carried = stepped (letter_of who m) x step in
    let own : AllByRecursion (IsAmong all) (c.bus.own ++ own_of step.moves) = settled_front (IsAmong all) (length c.bus.state.joined) (with_name conn b) a in
    over_both (KeepsOwn all) (keeping_own all) c.ends x.ends _ (over_with (KeepsOwn all) (keeping_own all) taken_up (λ e k. k) conn c.ends)
    (over_both (KeepsOwn all) (keeping_own all) x.ends b.ends _
    (stepped_put (KeepsOwn all) (keeping_own all) (letter_of who m) x step
    (all_map (HandsOn (Comes all)) (HandsOn (λ y. (e : End) → KeepsOwn all e (put_down (letter_of who m y) e))) step.moves (taken_puts all who m other)
    (doing_comes all c.bus.state conn step none (doing_of c.bus.state conn m.message (rule_in m.message)) (all_back (IsAmong all) c.bus.own (own_of step.moves) own))))
    (over_both (KeepsOwn all) (keeping_own all) b.ends (with_name conn b).ends _ (over_with (KeepsOwn all) (keeping_own all) (named b.bus conn) (λ e k. k) conn b.ends)
    (settled_own all (length c.bus.state.joined) (with_name conn b) a)))

pub ends_own : (all : List Envelope) (c : Carried) (conn : ℕ) → AllByRecursion (IsAmong all) (takes_end c conn).bus.own → Over (KeepsOwn all) c.ends (takes_end c conn).ends
ends_own all c conn a =
    let own : AllByRecursion (IsAmong all) (c.bus.own ++ own_of (bus_leaves c.bus.state conn).moves) = settled_front (IsAmong all) (length c.bus.state.joined) (left c conn) a in
    over_both (KeepsOwn all) (keeping_own all) c.ends (left c conn).ends _ (left_own all c conn (all_back (IsAmong all) c.bus.own (own_of (bus_leaves c.bus.state conn).moves) own))
    (settled_own all (length c.bus.state.joined) (left c conn) a)

-- ALL THAT IT SAYS IS WRITTEN, unless the registry is dropped
none_upto : (n after : ℕ) (own : List Envelope) → after < n → From n own → (filter (is_upto after) own ≡ []) × (filter (λ e. not (is_upto after e)) own ≡ own)
none_upto n after [] h f = (refl, refl)
none_upto n after (e ∷ own) h f = by (nat_le e.serial after) refl (none_upto (n + 1) after own (omega (arith, h)) f.1)
  where
    by : (b : Bool) → nat_le e.serial after ≡ b → (filter (is_upto after) own ≡ []) × (filter (λ m. not (is_upto after m)) own ≡ own)
        → ((if b then e ∷ filter (is_upto after) own else filter (is_upto after) own) ≡ []) × ((if not b then e ∷ filter (λ m. not (is_upto after m)) own else filter (λ m. not (is_upto after m)) own) ≡ e ∷ own)
    by true g r = let low = leb-true e.serial after g in let at : e.serial ≡ n = f.0 in absurd (omega (arith, low, at, h))
    by false g r = (r.0, ap (λ l. e ∷ l) r.1)

parted_is : (n after : ℕ) (own : List Envelope) → From n own → filter (is_upto after) own ++ filter (λ e. not (is_upto after e)) own ≡ own
parted_is n after [] f = refl
parted_is n after (e ∷ own) f = by (nat_le e.serial after) refl (parted_is (n + 1) after own f.1)
  where
    by : (b : Bool) → nat_le e.serial after ≡ b → filter (is_upto after) own ++ filter (λ m. not (is_upto after m)) own ≡ own
        → (if b then e ∷ filter (is_upto after) own else filter (is_upto after) own) ++ (if not b then e ∷ filter (λ m. not (is_upto after m)) own else filter (λ m. not (is_upto after m)) own) ≡ e ∷ own
    by true g r = ap (λ l. e ∷ l) r
    by false g r =
        let high = leb-false e.serial after g in
        let at : e.serial ≡ n = f.0 in
        let none = none_upto (n + 1) after own (omega (arith, high, at)) f.1 in
        ap (λ l. l ++ (e ∷ filter (λ m. not (is_upto after m)) own)) none.0 ∙ ap (λ l. e ∷ l) none.1

back_from : (n after : ℕ) (own : List Envelope) → From n own → (k : ℕ) × From k (filter (λ e. not (is_upto after e)) own)
back_from n after [] f = (n, tt)
back_from n after (e ∷ own) f = by (nat_le e.serial after) refl (back_from (n + 1) after own f.1)
  where
    by : (b : Bool) → nat_le e.serial after ≡ b → ((k : ℕ) × From k (filter (λ m. not (is_upto after m)) own))
        → (k : ℕ) × From k (if not b then e ∷ filter (λ m. not (is_upto after m)) own else filter (λ m. not (is_upto after m)) own)
    by true g r = r
    by false g r =
        let high = leb-false e.serial after g in
        let at : e.serial ≡ n = f.0 in
        let none = none_upto (n + 1) after own (omega (arith, high, at)) f.1 in
        (n, (f.0, subst (From (n + 1)) (sym none.1) f.1))

sent_messages : (own : List Envelope) → messages (sent_by_bus own) The_bus ≡ own
sent_messages [] = refl
sent_messages (e ∷ own) = ap (λ l. e ∷ l) (sent_messages own)

drop_messages : (who : Party) (why : Why) → messages (dropped_if who why) The_bus ≡ []
drop_messages who NotHello = refl
drop_messages who (Quota queued len) = refl

any_append : (p : Entry → Bool) (xs ys : List Entry) → list_any p (xs ++ ys) ≡ (list_any p xs || list_any p ys)
any_append p [] ys = refl
any_append p (x ∷ xs) ys = by (p x) (any_append p xs ys)
  where
    by : (b : Bool) → list_any p (xs ++ ys) ≡ (list_any p xs || list_any p ys) → (b || list_any p (xs ++ ys)) ≡ ((b || list_any p xs) || list_any p ys)
    by true h = refl
    by false h = h

or_right : (a b : Bool) → (a || b) ≡ false → b ≡ false
or_right true b h = absurd (false_true (sym h))
or_right false b h = h

behind_not : (p : Entry → Bool) (xs ys : List Entry) → list_any p (xs ++ ys) ≡ false → list_any p ys ≡ false
behind_not p xs ys h = or_right (list_any p xs) (list_any p ys) (sym (any_append p xs ys) ∙ h)

pub words_are : (ends : List End) → IsFirst ends → (n : ℕ) (own : List Envelope) (closings : List Closing) → From n own → AllByRecursion ClosingFine closings
    → list_any (stops_it Registry) (bus_entries ends own closings) ≡ false → messages (bus_entries ends own closings) The_bus ≡ own
words_are ends is_first n own [] f fine h = sent_messages own
words_are ends is_first n own (c ∷ cs) f fine h =
    messages_more (sent_by_bus front) (dropped_if who c.why ++ (if same_party who Registry then [] else rest)) The_bus
    ∙ ap (λ l. l ++ messages (dropped_if who c.why ++ (if same_party who Registry then [] else rest)) The_bus) (sent_messages front)
    ∙ ap (λ l. front ++ l) (by (same_party who Registry) refl (behind_not (stops_it Registry) (sent_by_bus front) (dropped_if who c.why ++ (if same_party who Registry then [] else rest)) h)
    (λ k. words_are ends is_first (back_from n c.after own f).0 back cs (back_from n c.after own f).1 fine.1 k))
    ∙ parted_is n c.after own f
  where
    who : Party
    who = party_at ends c.conn

    front : List Envelope
    front = filter (is_upto c.after) own

    back : List Envelope
    back = filter (λ e. not (is_upto c.after e)) own

    rest : List Entry
    rest = bus_entries ends back cs

    stops : (why : Why) → is_quota why ≡ true → (ys : List Entry) → same_party who Registry ≡ true → list_any (stops_it Registry) (dropped_if who why ++ ys) ≡ true
    stops (Quota queued len) q ys g = ap (λ b. b || list_any (stops_it Registry) ys) g
    stops NotHello q ys g = absurd (false_true q)

    by : (b : Bool) → same_party who Registry ≡ b → list_any (stops_it Registry) (dropped_if who c.why ++ (if same_party who Registry then [] else rest)) ≡ false
        → (list_any (stops_it Registry) rest ≡ false → messages rest The_bus ≡ back) → messages (dropped_if who c.why ++ (if same_party who Registry then [] else rest)) The_bus ≡ back
    by true g k ih = absurd (false_true (sym k ∙ stops c.why (fine.0 (is_first c.conn (same-party who Registry g))) (if same_party who Registry then [] else rest) g))
    by false g k ih =
        let is : (if same_party who Registry then [] else rest) ≡ rest = ap (λ b. if b then [] else rest) g in
        ap (λ l. messages (dropped_if who c.why ++ l) The_bus) is ∙ messages_more (dropped_if who c.why) rest The_bus ∙ ap (λ l. l ++ messages rest The_bus) (drop_messages who c.why)
        ∙ ih (behind_not (stops_it Registry) (dropped_if who c.why) rest (ap (λ l. list_any (stops_it Registry) (dropped_if who c.why ++ l)) (sym is) ∙ k))
