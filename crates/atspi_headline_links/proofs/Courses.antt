-- WHAT THE BUS WRITES of what it does: its messages of each step, and before those of each closing that an end was dropped.
use Rattle.std.proofs.Common.{◌≡◌, ℕ, zero, suc, ◌+◌, ◌<◌, ◌≤◌, Bool, true, false, List, [], ◌∷◌, ◌++◌, length, map, refl, sym, ap, ap₂, ◌∙◌, subst, arith, cond}
use Rattle.std.specs.Prelude.{◌-◌, ◌==◌, not, nat_le, filter, filter_map, flat_map, if◌then◌else◌}
use Rattle.std.specs.List.{AllByRecursion}
use Rattle.std.proofs.lemmas.Bool.{leb-true, le-leb}
use Rattle.std.proofs.lemmas.List.{append-nil, append_assoc}
use Rattle.atspi_script_lines.specs.declared.line.Party.TheVariants.{Bus as The_bus, Registry}
use Rattle.atspi_message.specs.Envelope.{Envelope}
use Rattle.atspi_names.specs.Owners.{after_gone}
use Rattle.atspi_match.specs.RuleIndex.{without_rules}
use Rattle.atspi_match.specs.declared.routing.closing.Why.{Why}
use Rattle.atspi_match.specs.declared.routing.closing.Closing.{Closing}
use Rattle.atspi_match.specs.routing.BusState.{BusState, unique_of, calls_without}
use Rattle.atspi_match.specs.routing.OwnMessages.{numbered}
use Rattle.atspi_match.specs.routing.Routing.{receivers}
use Rattle.atspi_match.specs.routing.Steps.{Move, says, delivers, closes, BusStep, handed, speaks, farewell, bus_leaves}
use Rattle.atspi_match.specs.routing.Queues.{own_of}
use Rattle.atspi_trace.specs.Entry.{Entry, sent}
use Rattle.atspi_trace.specs.World.{End}
use Rattle.atspi_trace.specs.Ends.{same_party, party_at}
use Rattle.atspi_trace.specs.Carrying.{Carried, one_closed, settled, sent_by_bus, is_upto, dropped_if, bus_entries}
use Rattle.atspi_headline.specs.Headline.{said_in}
use Rattle.atspi_trace_laws.proofs.OfOrder.Parties.{all_append, all_front}
use Rattle.atspi_trace_laws.proofs.OfOrder.Each.{all_map}
use Rattle.atspi_trace_laws.proofs.OfOwn.Doing.{Doing, says_, hands_, closes_}

-- LISTS
filter_both : {A : Type 0} (p : A → Bool) (xs ys : List A) → filter p (xs ++ ys) ≡ filter p xs ++ filter p ys
filter_both p [] ys = refl
filter_both p (x ∷ xs) ys = by (p x) (filter_both p xs ys)
  where
    by : (b : Bool) → filter p (xs ++ ys) ≡ filter p xs ++ filter p ys → cond b (x ∷ filter p (xs ++ ys)) (filter p (xs ++ ys)) ≡ cond b (x ∷ filter p xs) (filter p xs) ++ filter p ys
    by true h = ap (λ l. x ∷ l) h
    by false h = h

filter_all : {A : Type 0} (p : A → Bool) (xs : List A) → AllByRecursion (λ x. p x ≡ true) xs → filter p xs ≡ xs
filter_all p [] a = refl
filter_all p (x ∷ xs) a = ap (λ b. cond b (x ∷ filter p xs) (filter p xs)) a.0 ∙ ap (λ l. x ∷ l) (filter_all p xs a.1)

filter_none : {A : Type 0} (p : A → Bool) (xs : List A) → AllByRecursion (λ x. p x ≡ false) xs → filter p xs ≡ []
filter_none p [] a = refl
filter_none p (x ∷ xs) a = ap (λ b. cond b (x ∷ filter p xs) (filter p xs)) a.0 ∙ filter_none p xs a.1

all_filter : {A : Type 0} (P : A → Type 0) (p : A → Bool) (xs : List A) → AllByRecursion P xs → AllByRecursion P (filter p xs)
all_filter P p [] a = tt
all_filter P p (x ∷ xs) a = by (p x) (all_filter P p xs a.1)
  where
    by : (b : Bool) → AllByRecursion P (filter p xs) → AllByRecursion P (cond b (x ∷ filter p xs) (filter p xs))
    by true h = (a.0, h)
    by false h = h

-- NUMBERS: of messages below a number, and from it on
abbrev pub Low : ℕ → Envelope → Type 0
Low n e = e.serial < n

abbrev pub High : ℕ → Envelope → Type 0
High n e = n ≤ e.serial

abbrev pub Early : ℕ → Closing → Type 0
Early n c = c.after < n

is_low : (after n : ℕ) → after < n → (e : Envelope) → e.serial < suc after → is_upto after e ≡ true
is_low after n h e low = le-leb e.serial after (omega (arith, low))

is_high : (after : ℕ) (e : Envelope) → after < e.serial → is_upto after e ≡ false
is_high after e h = by (nat_le e.serial after) refl
  where
    by : (b : Bool) → nat_le e.serial after ≡ b → b ≡ false
    by true g = let low = leb-true e.serial after g in absurd (omega (arith, low, h))
    by false g = refl

-- who is closed is not the registry
abbrev pub NoRegistry : List End → Closing → Type 0
NoRegistry ends c = same_party (party_at ends c.conn) Registry ≡ false

abbrev pub closing_words : List End → Closing → List Envelope → List Entry
closing_words ends c more = dropped_if (party_at ends c.conn) c.why ++ sent_by_bus more

sent_both : (xs ys : List Envelope) → sent_by_bus (xs ++ ys) ≡ sent_by_bus xs ++ sent_by_bus ys
sent_both [] ys = refl
sent_both (x ∷ xs) ys = ap (λ l. sent The_bus x ∷ l) (sent_both xs ys)

-- a closing more: its messages stand behind it
closing_more : (ends : List End) (n : ℕ) (own more : List Envelope) (cs : List Closing) (c : Closing) → n ≡ suc c.after → AllByRecursion (Low n) own → AllByRecursion (High n) more → AllByRecursion (Early n) cs
    → AllByRecursion (NoRegistry ends) (cs ++ c ∷ []) → bus_entries ends (own ++ more) (cs ++ c ∷ []) ≡ bus_entries ends own cs ++ closing_words ends c more
closing_more ends n own more [] c at low high early none =
    let upto : filter (is_upto c.after) (own ++ more) ≡ own =
    filter_both (is_upto c.after) own more
    ∙ ap₂ (λ x y. x ++ y) (filter_all (is_upto c.after) own (all_map (Low n) (λ e. is_upto c.after e ≡ true) own (λ e h. is_low c.after (suc c.after) (next c.after) e (subst (λ k. e.serial < k) at h)) low))
    (filter_none (is_upto c.after) more (all_map (High n) (λ e. is_upto c.after e ≡ false) more (λ e h. is_high c.after e (above e h)) high)) ∙ append-nil own in
    let behind : filter (λ e. not (is_upto c.after e)) (own ++ more) ≡ more =
    filter_both (λ e. not (is_upto c.after e)) own more
    ∙ ap₂ (λ x y. x ++ y)
    (filter_none (λ e. not (is_upto c.after e)) own (all_map (Low n) (λ e. not (is_upto c.after e) ≡ false) own (λ e h. ap not (is_low c.after (suc c.after) (next c.after) e (subst (λ k. e.serial < k) at h))) low))
    (filter_all (λ e. not (is_upto c.after e)) more (all_map (High n) (λ e. not (is_upto c.after e) ≡ true) more (λ e h. ap not (is_high c.after e (above e h))) high)) in
    ap₂ (λ x y. sent_by_bus x ++ (dropped_if (party_at ends c.conn) c.why ++ (if same_party (party_at ends c.conn) Registry then [] else sent_by_bus y))) upto behind
    ∙ ap (λ b. sent_by_bus own ++ (dropped_if (party_at ends c.conn) c.why ++ (if b then [] else sent_by_bus more))) none.0
  where
    next : (k : ℕ) → k < suc k
    next k = omega arith

    above : (e : Envelope) → n ≤ e.serial → c.after < e.serial
    above e h = omega (arith, h, at)
closing_more ends n own more (x ∷ cs) c at low high early none =
    let front : List Envelope = filter (is_upto x.after) own in
    let back : List Envelope = filter (λ e. not (is_upto x.after e)) own in
    let upto : filter (is_upto x.after) (own ++ more) ≡ front =
    filter_both (is_upto x.after) own more
    ∙ ap (λ y. front ++ y) (filter_none (is_upto x.after) more (all_map (High n) (λ e. is_upto x.after e ≡ false) more (λ e h. is_high x.after e (above e h)) high)) ∙ append-nil front in
    let behind : filter (λ e. not (is_upto x.after e)) (own ++ more) ≡ back ++ more =
    filter_both (λ e. not (is_upto x.after e)) own more
    ∙ ap (λ y. back ++ y) (filter_all (λ e. not (is_upto x.after e)) more (all_map (High n) (λ e. not (is_upto x.after e) ≡ true) more (λ e h. ap not (is_high x.after e (above e h))) high)) in
    let rest : bus_entries ends (back ++ more) (cs ++ c ∷ []) ≡ bus_entries ends back cs ++ closing_words ends c more =
    closing_more ends n back more cs c at (all_filter (Low n) (λ e. not (is_upto x.after e)) own low) high early.1 none.1 in
    let drop : List Entry = dropped_if (party_at ends x.conn) x.why in
    ap₂ (λ a b. sent_by_bus a ++ (drop ++ (if same_party (party_at ends x.conn) Registry then [] else bus_entries ends b (cs ++ c ∷ [])))) upto behind
    ∙ ap (λ b. sent_by_bus front ++ (drop ++ (if b then [] else bus_entries ends (back ++ more) (cs ++ c ∷ [])))) none.0
    ∙ ap (λ l. sent_by_bus front ++ (drop ++ l)) rest
    ∙ ap (λ l. sent_by_bus front ++ l) (sym (append_assoc drop (bus_entries ends back cs) (closing_words ends c more)))
    ∙ sym (append_assoc (sent_by_bus front) (drop ++ bus_entries ends back cs) (closing_words ends c more))
    ∙ ap (λ b. (sent_by_bus front ++ (drop ++ (if b then [] else bus_entries ends back cs))) ++ closing_words ends c more) (sym none.0)
  where
    above : (e : Envelope) → n ≤ e.serial → x.after < e.serial
    above e h = let low_ : x.after < n = early.0 in omega (arith, h, low_)

-- WHAT A STEP SAYS has the next numbers
own_append : (xs ys : List Move) → own_of (xs ++ ys) ≡ own_of xs ++ own_of ys
own_append [] ys = refl
own_append (says e ∷ xs) ys = ap (λ l. e ∷ l) (own_append xs ys)
own_append (delivers conn e ∷ xs) ys = own_append xs ys
own_append (closes conn ∷ xs) ys = own_append xs ys

own_handed : (e : Envelope) (conns : List ℕ) → own_of (map (λ c. delivers c e) conns) ≡ []
own_handed e [] = refl
own_handed e (c ∷ cs) = own_handed e cs

own_said : (s : BusState) (es : List Envelope) → own_of (flat_map (λ e. says e ∷ handed s e) es) ≡ es
own_said s [] = refl
own_said s (e ∷ es) =
    ap (λ l. e ∷ l)
    (own_append (handed s e) (flat_map (λ m. says m ∷ handed s m) es) ∙ ap (λ l. l ++ own_of (flat_map (λ m. says m ∷ handed s m) es)) (own_handed e (receivers s e)) ∙ own_said s es)

pub own_is : (moves : List Move) → filter_map said_in moves ≡ own_of moves
own_is [] = refl
own_is (says e ∷ moves) = ap (λ l. e ∷ l) (own_is moves)
own_is (delivers conn e ∷ moves) = own_is moves
own_is (closes conn ∷ moves) = own_is moves

-- from a number on, and the next number behind
pub record Says (n : ℕ) (step : BusStep) : Type 0 where
  pub high : AllByRecursion (High n) (own_of step.moves)
  pub low : AllByRecursion (Low step.state.next) (own_of step.moves)
  pub more : n ≤ step.state.next

numbered_high : (n k : ℕ) (es : List Envelope) → n ≤ k → AllByRecursion (High n) (numbered k es)
numbered_high n k [] h = tt
numbered_high n k (e ∷ es) h = (h, numbered_high n (k + 1) es (omega (arith, h)))

numbered_low : (n k : ℕ) (es : List Envelope) → k + length es ≤ n → AllByRecursion (Low n) (numbered k es)
numbered_low n k [] h = tt
numbered_low n k (e ∷ es) h = (first h, numbered_low n (k + 1) es (omega (arith, h)))
  where
    first : k + length (e ∷ es) ≤ n → k < n
    first g = omega (arith, g)

speaks_says : (s : BusState) (es : List Envelope) → Says s.next (speaks s es)
speaks_says s es = record {
  high = subst (AllByRecursion (High s.next)) (sym (own_said s (numbered s.next es))) (numbered_high s.next s.next es (least s.next));
  low = subst (AllByRecursion (Low (s.next + length es))) (sym (own_said s (numbered s.next es))) (numbered_low (s.next + length es) s.next es (least (s.next + length es)));
  more = longer s.next (length es);
}
  where
    least : (k : ℕ) → k ≤ k
    least k = omega arith

    longer : (k m : ℕ) → k ≤ k + m
    longer k m = omega arith

pub leaves_says : (s : BusState) (conn : ℕ) → Says s.next (bus_leaves s conn)
leaves_says s conn =
    let t : BusState = record s {
      joined = filter (λ c. not (c == conn)) s.joined;
      owners = after_gone s.owners conn;
      rules = without_rules conn s.rules;
      calls = calls_without conn s.calls;
    } in
    let x : Says t.next (speaks t (farewell s (after_gone s.owners conn) conn (unique_of s.owners conn))) = speaks_says t (farewell s (after_gone s.owners conn) conn (unique_of s.owners conn)) in
    record { high = x.high; low = x.low; more = x.more }

pub takes_says : (s : BusState) (conn : ℕ) (step : BusStep) → Doing s conn step → Says s.next step
takes_says s conn step (says_ t es next named new is) = subst (Says s.next) (sym is) (subst (λ n. Says n (speaks t es)) next (speaks_says t es))
takes_says s conn step (hands_ calls e sender is) =
    let none : own_of (handed s e) ≡ [] = own_handed e (receivers s e) in
    subst (Says s.next) (sym is) (record { high = subst (AllByRecursion (High s.next)) (sym none) tt; low = subst (AllByRecursion (Low s.next)) (sym none) tt; more = least s.next })
  where
    least : (k : ℕ) → k ≤ k
    least k = omega arith
takes_says s conn step (closes_ none is) = subst (Says s.next) (sym is) (record { high = tt; low = tt; more = least s.next })
  where
    least : (k : ℕ) → k ≤ k
    least k = omega arith

-- THE COURSE of closings
abbrev pub first_closing : Carried → ℕ × Why → Closing
first_closing c first = record { conn = first.0; why = first.1; after = c.bus.state.next - 1 }

abbrev pub first_words : List End → Carried → List (ℕ × Why) → List Entry
first_words ends c [] = []
first_words ends c (first ∷ rest) = closing_words ends (first_closing c first) (own_of (bus_leaves c.bus.state first.0).moves)

abbrev pub course : List End → ℕ → Carried → List Entry
course ends zero c = []
course ends (suc n) c = first_words ends c c.bus.waiting.due ++ course ends n (one_closed c c.bus.waiting.due)

-- what is told so far
pub record Told (c : Carried) : Type 0 where
  pub some : 1 ≤ c.bus.state.next
  pub low : AllByRecursion (Low c.bus.state.next) c.bus.own
  pub early : AllByRecursion (Early c.bus.state.next) c.bus.closings

lower : (n k : ℕ) → n ≤ k → (es : List Envelope) → AllByRecursion (Low n) es → AllByRecursion (Low k) es
lower n k h es a = all_map (Low n) (Low k) es (λ e g. below e.serial g) a
  where
    below : (s : ℕ) → s < n → s < k
    below s g = omega (arith, g, h)

earlier : (n k : ℕ) → n ≤ k → (cs : List Closing) → AllByRecursion (Early n) cs → AllByRecursion (Early k) cs
earlier n k h cs a = all_map (Early n) (Early k) cs (λ c g. below c.after g) a
  where
    below : (s : ℕ) → s < n → s < k
    below s g = omega (arith, g, h)

one_told : (c : Carried) (due : List (ℕ × Why)) → Told c → Told (one_closed c due)
one_told c [] t = t
one_told c (first ∷ rest) t =
    let step : BusStep = bus_leaves c.bus.state first.0 in
    let s : Says c.bus.state.next step = leaves_says c.bus.state first.0 in
    record {
      some = both t.some s.more;
      low = all_append (Low step.state.next) c.bus.own (own_of step.moves) (lower c.bus.state.next step.state.next s.more c.bus.own t.low) s.low;
      early = all_append (Early step.state.next) c.bus.closings (first_closing c first ∷ []) (earlier c.bus.state.next step.state.next s.more c.bus.closings t.early) (last t.some s.more, tt);
    }
  where
    both : 1 ≤ c.bus.state.next → c.bus.state.next ≤ (bus_leaves c.bus.state first.0).state.next → 1 ≤ (bus_leaves c.bus.state first.0).state.next
    both h g = omega (arith, h, g)

    last : 1 ≤ c.bus.state.next → c.bus.state.next ≤ (bus_leaves c.bus.state first.0).state.next → c.bus.state.next - 1 < (bus_leaves c.bus.state first.0).state.next
    last h g = omega (arith, h, g)

-- the closings of a course
pub closings_grow : (n : ℕ) (c : Carried) → (more : List Closing) × ((settled n c).bus.closings ≡ c.bus.closings ++ more)
closings_grow zero c = ([], sym (append-nil c.bus.closings))
closings_grow (suc n) c = by c.bus.waiting.due (closings_grow n (one_closed c c.bus.waiting.due))
  where
    by : (due : List (ℕ × Why)) → ((more : List Closing) × ((settled n (one_closed c due)).bus.closings ≡ (one_closed c due).bus.closings ++ more)) → (more : List Closing) × ((settled n (one_closed c due)).bus.closings ≡ c.bus.closings ++ more)
    by [] h = h
    by (first ∷ rest) h = (first_closing c first ∷ h.0, h.1 ∙ append_assoc c.bus.closings (first_closing c first ∷ []) h.0)

pub all_so_far : (P : Closing → Type 0) (n : ℕ) (c : Carried) → AllByRecursion P (settled n c).bus.closings → AllByRecursion P c.bus.closings
all_so_far P n c a = let g = closings_grow n c in all_front P c.bus.closings g.0 (subst (AllByRecursion P) g.1 a)

one_words : (ends : List End) (c : Carried) (due : List (ℕ × Why)) → Told c → AllByRecursion (NoRegistry ends) (one_closed c due).bus.closings
    → bus_entries ends (one_closed c due).bus.own (one_closed c due).bus.closings ≡ bus_entries ends c.bus.own c.bus.closings ++ first_words ends c due
one_words ends c [] t none = sym (append-nil (bus_entries ends c.bus.own c.bus.closings))
one_words ends c (first ∷ rest) t none =
    let s : Says c.bus.state.next (bus_leaves c.bus.state first.0) = leaves_says c.bus.state first.0 in
    closing_more ends c.bus.state.next c.bus.own (own_of (bus_leaves c.bus.state first.0).moves) c.bus.closings (first_closing c first) (before t.some) t.low s.high t.early none
  where
    before : 1 ≤ c.bus.state.next → c.bus.state.next ≡ suc (c.bus.state.next - 1)
    before h = omega (arith, h)

pub course_is : (ends : List End) (n : ℕ) (c : Carried) → Told c → AllByRecursion (NoRegistry ends) (settled n c).bus.closings
    → bus_entries ends (settled n c).bus.own (settled n c).bus.closings ≡ bus_entries ends c.bus.own c.bus.closings ++ course ends n c
course_is ends zero c t none = sym (append-nil (bus_entries ends c.bus.own c.bus.closings))
course_is ends (suc n) c t none =
    let d : Carried = one_closed c c.bus.waiting.due in
    course_is ends n d (one_told c c.bus.waiting.due t) none
    ∙ ap (λ l. l ++ course ends n d) (one_words ends c c.bus.waiting.due t (all_so_far (NoRegistry ends) n d none))
    ∙ append_assoc (bus_entries ends c.bus.own c.bus.closings) (first_words ends c c.bus.waiting.due) (course ends n d)
