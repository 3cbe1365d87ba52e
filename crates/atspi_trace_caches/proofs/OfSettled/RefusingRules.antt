-- How many match rules a connection has: no more than it sent AddMatch calls that the bus took.
use Rattle.std.proofs.Common.{◌≡◌, ◌⊎◌, inl, inr, ℕ, zero, suc, ◌+◌, ◌<◌, ◌≤◌, Bool, true, false, List, [], ◌∷◌, ◌++◌, length, Option, None, Some, refl, sym, ap, ◌∙◌, subst, arith, cond, length-append}
use Rattle.std.specs.Prelude.{◌==◌, ◌&&◌, not, nat_lt, filter, codes, if◌then◌else◌, Result, Ok, Err}
use Rattle.std.specs.List.{AllByRecursion, list_any}
use Rattle.std.proofs.lemmas.List.Recursion.{is_count_by}
use Rattle.std.proofs.lemmas.Bool.{eqb-true, eq-eqb, lt-ltb, ltb-true}
use Rattle.atspi_script_lines.specs.declared.limits.TheConstants.{QUOTA_MOST}
use Rattle.atspi_script_lines.specs.declared.line.Party.{Party}
use Rattle.atspi_script_lines.specs.declared.line.Party.TheVariants.{Registry}
use Rattle.atspi_types.specs.Data.{Data}
use Rattle.atspi_message.specs.Envelope.{Envelope}
use Rattle.atspi_match.specs.declared.condition.Condition.{Condition}
use Rattle.atspi_match.specs.RuleIndex.{is_pair, rules_of, without_first, without_rules}
use Rattle.atspi_match.specs.declared.routing.closing.Why.{Why}
use Rattle.atspi_match.specs.declared.routing.member.BusMember.{BusMember}
use Rattle.atspi_match.specs.declared.routing.member.BusMember.TheVariants.{Hello, RequestName, ReleaseName, NameHasOwner, GetNameOwner, ListNames, ListQueuedOwners, AddMatch, RemoveMatch, GetId, Ping}
use Rattle.atspi_match.specs.routing.BusState.{OpenCall, BusState, unique_of}
use Rattle.atspi_match.specs.routing.Members.{MemberLine, is_text, is_of, first_line, with_arguments, member_lines, member_of}
use Rattle.atspi_match.specs.routing.Answers.{returns, fails, Answer, only, answers, may_be_asked_for, first_text, second_number, requests, releases, adds_rule, removes_rule}
use Rattle.atspi_match.specs.routing.Routing.{receivers, is_for_bus}
use Rattle.atspi_match.specs.routing.Steps.{closes, handed, speaks, called, undeliverable, is_unowned, calls_after_all, is_hello, greets, bus_takes}
use Rattle.atspi_trace.specs.Entry.{Entry}
use Rattle.atspi_trace.specs.Rules.{rule_in}
use Rattle.atspi_trace.specs.World.{first_registry, End, World, first_world}
use Rattle.atspi_trace.specs.Ends.{end_at, with_end, taken_up}
use Rattle.atspi_trace.specs.Carrying as carrying
use Rattle.atspi_trace.specs.Carrying.{Carried, left, one_closed, settled}
use Rattle.atspi_trace.specs.Causes.{Done}
use Rattle.atspi_trace_laws.specs.laws.Words.{messages, message, with_serial}
use Rattle.atspi_trace_laws.proofs.OfOrder.Parties.{no_none, same_some, false_true}
use Rattle.atspi_trace_laws.proofs.OfOrder.Frame.{Over, at_below, joined_cases}
use Rattle.atspi_trace_laws.proofs.OfOrder.Shape.{Lasts}
use Rattle.atspi_trace_laws.proofs.OfOrder.Shaped.{bus_takes_over, bus_ends_over}
use Rattle.atspi_trace_laws.proofs.OfOrder.Effects.{BusTakes, BusEnds}
use Rattle.atspi_trace_laws.proofs.OfSerials.Serial.{messages_more}
use Rattle.atspi_trace_laws.proofs.OfLinks.LawLinks.{first_unread}
use Rattle.atspi_trace_laws.proofs.OfTurns.Turning.{unread_more}
use Rattle.atspi_trace_caches.proofs.OfSettled.Idling.{Idle, Joining, Form, idles, joins, takes_, ends_, begins_}

-- HOW MANY AddMatch CALLS stand among messages with a serial below this
abbrev pub add_match : List ℕ
add_match = codes "AddMatch"

abbrev pub is_add : Envelope → Bool
is_add m = m.kind == 1 && is_text m.member add_match

abbrev pub counted : Bool → ℕ → ℕ
counted true n = suc n
counted false n = n

abbrev pub adds_among : ℕ → List Envelope → ℕ
adds_among n [] = 0
adds_among n (m ∷ ms) = counted (nat_lt m.serial n && is_add m) (adds_among n ms)

abbrev pub adds_below : List Entry → Party → ℕ → ℕ
adds_below es who n = adds_among n (messages es who)

least : (n : ℕ) → n ≤ n
least n = omega arith

counted_more : (a b : Bool) (x y : ℕ) → (a ≡ true → b ≡ true) → x ≤ y → counted a x ≤ counted b y
counted_more true true x y f le = omega (arith, le)
counted_more true false x y f le = absurd (false_true (f refl))
counted_more false true x y f le = omega (arith, le)
counted_more false false x y f le = le

and_more : (a b c : Bool) → (a ≡ true → b ≡ true) → (a && c) ≡ true → (b && c) ≡ true
and_more true b c f h = by b (f refl) h
  where
    by : (b : Bool) → b ≡ true → c ≡ true → (b && c) ≡ true
    by true g k = k
    by false g k = absurd (false_true g)
and_more false b c f h = absurd (false_true h)

lower : (s n k : ℕ) → n ≤ k → nat_lt s n ≡ true → nat_lt s k ≡ true
lower s n k le h = let less : s < n = ltb-true s n h in lt-ltb s k (omega (arith, less, le))

adds_more : (n k : ℕ) (ms : List Envelope) → n ≤ k → adds_among n ms ≤ adds_among k ms
adds_more n k [] le = omega arith
adds_more n k (m ∷ ms) le =
    counted_more (nat_lt m.serial n && is_add m) (nat_lt m.serial k && is_add m) (adds_among n ms) (adds_among k ms)
    (and_more (nat_lt m.serial n) (nat_lt m.serial k) (is_add m) (lower m.serial n k le)) (adds_more n k ms le)

adds_front : (n : ℕ) (ms more : List Envelope) → adds_among n ms ≤ adds_among n (ms ++ more)
adds_front n [] more = omega arith
adds_front n (m ∷ ms) more =
    counted_more (nat_lt m.serial n && is_add m) (nat_lt m.serial n && is_add m) (adds_among n ms) (adds_among n (ms ++ more)) (λ h. h) (adds_front n ms more)

pub adds_grow : (es ys : List Entry) (who : Party) (n k : ℕ) → n ≤ k → adds_below es who n ≤ adds_below (es ++ ys) who k
adds_grow es ys who n k le =
    let up : adds_among n (messages es who) ≤ adds_among k (messages es who) = adds_more n k (messages es who) le in
    let on : adds_among k (messages es who) ≤ adds_among k (messages es who ++ messages ys who) = adds_front k (messages es who) (messages ys who) in
    subst (λ ms. adds_below es who n ≤ adds_among k ms) (sym (messages_more es ys who)) (omega (arith, up, on))

-- one of them has this serial
not_itself : (n : ℕ) → nat_lt n n ≡ true → ⊥
not_itself n h = let less : n < n = ltb-true n n h in absurd (omega (arith, less))

adds_with : (n k : ℕ) (ms : List Envelope) (m : Envelope) → with_serial n ms ≡ Some m → is_add m ≡ true → n < k → suc (adds_among n ms) ≤ adds_among k ms
adds_with n k [] m h add less = absurd (no_none m h)
adds_with n k (x ∷ xs) m h add less = by (x.serial == n) refl h (λ q. adds_with n k xs m q add less)
  where
    at_most : {a b : ℕ} → a < b → a ≤ b
    at_most g = omega (arith, g)

    more_true : (b c : Bool) → b ≡ true → c ≡ true → (b && c) ≡ true
    more_true true c g k = k
    more_true false c g k = absurd (false_true g)

    first : (a b : Bool) → (a ≡ true → ⊥) → b ≡ true → adds_among n xs ≤ adds_among k xs → suc (counted a (adds_among n xs)) ≤ counted b (adds_among k xs)
    first true b f g le = absurd (f refl)
    first false true f g le = omega (arith, le)
    first false false f g le = absurd (false_true g)

    and_first : (a b : Bool) → (a && b) ≡ true → a ≡ true
    and_first true b g = refl
    and_first false b g = absurd (false_true g)

    other : (a b : Bool) → (a ≡ true → b ≡ true) → suc (adds_among n xs) ≤ adds_among k xs → suc (counted a (adds_among n xs)) ≤ counted b (adds_among k xs)
    other true true f le = omega (arith, le)
    other true false f le = absurd (false_true (f refl))
    other false true f le = omega (arith, le)
    other false false f le = le

    by : (b : Bool) → (x.serial == n) ≡ b → (if b then Some x else with_serial n xs) ≡ Some m → (with_serial n xs ≡ Some m → suc (adds_among n xs) ≤ adds_among k xs) → suc (adds_among n (x ∷ xs)) ≤ adds_among k (x ∷ xs)
    by true g q ih =
        let serial : x.serial ≡ n = eqb-true x.serial n g in
        let same : x ≡ m = same_some x m q in
        first (nat_lt x.serial n && is_add x) (nat_lt x.serial k && is_add x)
        (λ t. not_itself n (subst (λ z. nat_lt z n ≡ true) serial (and_first (nat_lt x.serial n) (is_add x) t)))
        (more_true (nat_lt x.serial k) (is_add x) (lt-ltb x.serial k (subst (λ z. z < k) (sym serial) less)) (ap is_add same ∙ add)) (adds_more n k xs (at_most less))
    by false g q ih =
        other (nat_lt x.serial n && is_add x) (nat_lt x.serial k && is_add x)
        (and_more (nat_lt x.serial n) (nat_lt x.serial k) (is_add x) (lower x.serial n k (at_most less))) (ih q)

-- THE RULES OF ONE CONNECTION
abbrev pub number : ℕ → List (ℕ × List Condition) → ℕ
number k [] = 0
number k (p ∷ ps) = counted (p.0 == k) (number k ps)

pub number_is : (k : ℕ) (ps : List (ℕ × List Condition)) → number k ps ≡ rules_of k ps
number_is k ps = is_count_by (number k) (λ (p : ℕ × List Condition). p.0 == k) refl (λ p qs. by (p.0 == k) (number k qs)) ps
  where
    by : (b : Bool) (n : ℕ) → counted b n ≡ cond b (1 + n) n
    by true n = omega arith
    by false n = refl

same_more : (b : Bool) (x y : ℕ) → x ≤ y → counted b x ≤ counted b y
same_more b x y le = counted_more b b x y (λ h. h) le

one_more : (b : Bool) (x y : ℕ) → x ≤ y → x ≤ counted b y
one_more true x y le = omega (arith, le)
one_more false x y le = le

rules_less : (k conn : ℕ) (ps : List (ℕ × List Condition)) → number k (without_rules conn ps) ≤ number k ps
rules_less k conn [] = omega arith
rules_less k conn (p ∷ ps) = by (p.0 == conn) (rules_less k conn ps)
  where
    by : (b : Bool) → number k (without_rules conn ps) ≤ number k ps → number k (if not b then p ∷ without_rules conn ps else without_rules conn ps) ≤ number k (p ∷ ps)
    by true h = one_more (p.0 == k) (number k (without_rules conn ps)) (number k ps) h
    by false h = same_more (p.0 == k) (number k (without_rules conn ps)) (number k ps) h

rules_first : (k conn : ℕ) (gone : List Condition) (ps : List (ℕ × List Condition)) → number k (without_first ps conn gone) ≤ number k ps
rules_first k conn gone [] = omega arith
rules_first k conn gone (p ∷ ps) = by (is_pair conn gone p) (rules_first k conn gone ps)
  where
    by : (b : Bool) → number k (without_first ps conn gone) ≤ number k ps → number k (if b then ps else p ∷ without_first ps conn gone) ≤ number k (p ∷ ps)
    by true h = one_more (p.0 == k) (number k ps) (number k ps) (least (number k ps))
    by false h = same_more (p.0 == k) (number k (without_first ps conn gone)) (number k ps) h

rules_last : (k conn : ℕ) (rule : List Condition) (ps : List (ℕ × List Condition)) → number k (ps ++ (conn, rule) ∷ []) ≤ suc (number k ps)
rules_last k conn rule [] = by (conn == k)
  where
    by : (b : Bool) → counted b 0 ≤ 1
    by true = omega arith
    by false = omega arith
rules_last k conn rule (p ∷ ps) = by (p.0 == k) (number k (ps ++ (conn, rule) ∷ [])) (number k ps) (rules_last k conn rule ps)
  where
    by : (b : Bool) (x y : ℕ) → x ≤ suc y → counted b x ≤ suc (counted b y)
    by true x y le = omega (arith, le)
    by false x y le = le

rules_other : (k conn : ℕ) (rule : List Condition) (ps : List (ℕ × List Condition)) → (k ≡ conn → ⊥) → number k (ps ++ (conn, rule) ∷ []) ≤ number k ps
rules_other k conn rule [] differ = by (conn == k) refl
  where
    by : (b : Bool) → (conn == k) ≡ b → counted b 0 ≤ 0
    by true g = absurd (differ (sym (eqb-true conn k g)))
    by false g = omega arith
rules_other k conn rule (p ∷ ps) differ = same_more (p.0 == k) (number k (ps ++ (conn, rule) ∷ [])) (number k ps) (rules_other k conn rule ps differ)

-- WHICH CALL ADDS ONE
abbrev is_adding : BusMember → Bool
is_adding AddMatch = true
is_adding member = false

abbrev pub Adds : Envelope → Type 0
Adds e = is_add e ≡ true

first_passes : (p : MemberLine → Bool) (Q : MemberLine → Type 0) (ls : List MemberLine) (l : MemberLine) → AllByRecursion Q ls → first_line (filter p ls) ≡ Some l → (p l ≡ true) × Q l
first_passes p Q [] l a h = absurd (no_none l h)
first_passes p Q (x ∷ xs) l a h = by (p x) refl h (λ g. first_passes p Q xs l a.1 g)
  where
    by : (b : Bool) → p x ≡ b → first_line (if b then x ∷ filter p xs else filter p xs) ≡ Some l → (first_line (filter p xs) ≡ Some l → (p l ≡ true) × Q l) → (p l ≡ true) × Q l
    by true g k f = let same : x ≡ l = same_some x l k in (ap p (sym same) ∙ g, subst Q same a.0)
    by false g k f = f k

abbrev OfAdding : MemberLine → Type 0
OfAdding l = is_adding l.member ≡ true → l.name ≡ add_match

adding_lines : AllByRecursion OfAdding member_lines
adding_lines =
    ((λ h. absurd (false_true h)), ((λ h. absurd (false_true h)), ((λ h. absurd (false_true h)), ((λ h. absurd (false_true h)), ((λ h. absurd (false_true h)), ((λ h. absurd (false_true h)), ((λ h. absurd (false_true h)), ((λ h. refl), ((λ h. absurd (false_true h)), ((λ h. absurd (false_true h)), ((λ h. absurd (false_true h)), tt)))))))))))

and_right : (a b : Bool) → (a && b) ≡ true → b ≡ true
and_right true b h = h
and_right false b h = absurd (false_true h)

adding_of : (e : Envelope) (member : BusMember) → member_of e ≡ Ok member → is_adding member ≡ true → is_text e.member add_match ≡ true
adding_of e member h r = by (list_any (is_of e.interface) member_lines) h
  where
    ok_or : BusMember → Result BusMember (List ℕ) → BusMember
    ok_or d (Ok m) = m
    ok_or d (Err name) = d

    is_err : Result BusMember (List ℕ) → Bool
    is_err (Ok m) = false
    is_err (Err name) = true

    never : (name : List ℕ) → Err name ≡ Ok member → ⊥
    never name g = false_true (sym (ap is_err g))

    its : (o : Option MemberLine) → first_line (filter (λ l. is_of e.interface l && is_text e.member l.name) member_lines) ≡ o → with_arguments e o ≡ Ok member → is_text e.member add_match ≡ true
    its None g k = absurd (never _ k)
    its (Some l) g k = args _ k
      where
        x : ((is_of e.interface l && is_text e.member l.name) ≡ true) × OfAdding l
        x = first_passes (λ (m : MemberLine). is_of e.interface m && is_text e.member m.name) OfAdding member_lines l adding_lines g

        args : (b : Bool) → (if b then Ok l.member else Err (codes "InvalidArgs")) ≡ Ok member → is_text e.member add_match ≡ true
        args true q =
            let same : l.member ≡ member = ap (ok_or l.member) q in
            ap (is_text e.member) (sym (x.1 (ap is_adding same ∙ r))) ∙ and_right (is_of e.interface l) (is_text e.member l.name) x.0
        args false q = absurd (never _ q)

    by : (b : Bool) → (if b then with_arguments e (first_line (filter (λ l. is_of e.interface l && is_text e.member l.name) member_lines)) else Err (codes "UnknownInterface")) ≡ Ok member → is_text e.member add_match ≡ true
    by true g = its (first_line (filter (λ l. is_of e.interface l && is_text e.member l.name) member_lines)) refl g
    by false g = absurd (never _ g)

and_both : (a b : Bool) → a ≡ true → b ≡ true → (a && b) ≡ true
and_both true b h g = g
and_both false b h g = absurd (false_true h)

-- THE BUS TAKES A MESSAGE: at most so many
module _ (k bound : ℕ) where
  abbrev pub AtMost : List (ℕ × List Condition) → Type 0
  AtMost rules = number k rules ≤ bound

  -- one more has room, or none comes
  abbrev pub Room : List (ℕ × List Condition) → Type 0 → Type 0
  Room rules Comes = (Comes → ⊥) ⊎ (suc (number k rules) ≤ bound)

  if_most : (b : Bool) (x y : Answer) → AtMost x.rules → AtMost y.rules → AtMost (if b then x else y).rules
  if_most true x y a c = a
  if_most false x y a c = c

  added_most : (rules : List (ℕ × List Condition)) (conn : ℕ) (new : List Condition) → AtMost rules → Room rules (k ≡ conn) → AtMost (rules ++ (conn, new) ∷ [])
  added_most rules conn new h (inl differ) = let le = rules_other k conn new rules differ in omega (arith, le, h)
  added_most rules conn new h (inr room) = let le = rules_last k conn new rules in omega (arith, le, room)

  adds_most : (s : BusState) (conn : ℕ) (o : Option (List Condition)) → AtMost s.rules → Room s.rules (k ≡ conn) → AtMost (adds_rule s conn o).rules
  adds_most s conn None h r = h
  adds_most s conn (Some new) h r =
      if_most (rules_of conn s.rules == 512) (only s (fails (codes "LimitsExceeded"))) (record (only s (returns [])) { rules = s.rules ++ (conn, new) ∷ [] }) h (added_most s.rules conn new h r)

  removes_most : (s : BusState) (conn : ℕ) (o : Option (List Condition)) → AtMost s.rules → AtMost (removes_rule s conn o).rules
  removes_most s conn None h = h
  removes_most s conn (Some gone) h =
      let le = rules_first k conn gone s.rules in
      if_most (list_any (is_pair conn gone) s.rules) (record (only s (returns [])) { rules = without_first s.rules conn gone }) (only s (fails (codes "MatchRuleNotFound"))) (omega (arith, le, h)) h

  answers_most : (member : BusMember) (s : BusState) (conn : ℕ) (args : List Data) (o : Option (List Condition)) → (is_adding member ≡ true → Room s.rules (k ≡ conn)) → AtMost s.rules → AtMost (answers member s conn args o).rules
  answers_most Hello s conn args o f h = h
  answers_most RequestName s conn args o f h =
      if_most (may_be_asked_for (first_text args)) (requests s conn (first_text args) (second_number args)) (only s (fails (codes "InvalidArgs"))) h h
  answers_most ReleaseName s conn args o f h = if_most (may_be_asked_for (first_text args)) (releases s conn (first_text args)) (only s (fails (codes "InvalidArgs"))) h h
  answers_most NameHasOwner s conn args o f h = h
  answers_most GetNameOwner s conn args o f h = h
  answers_most ListNames s conn args o f h = h
  answers_most ListQueuedOwners s conn args o f h = h
  answers_most AddMatch s conn args o f h = adds_most s conn o h (f refl)
  answers_most RemoveMatch s conn args o f h = removes_most s conn o h
  answers_most GetId s conn args o f h = h
  answers_most Ping s conn args o f h = h

  called_most : (s : BusState) (conn : ℕ) (e : Envelope) (o : Option (List Condition)) → (is_text e.member add_match ≡ true → Room s.rules (k ≡ conn)) → AtMost s.rules → AtMost (called s conn e o).state.rules
  called_most s conn e o f h = by (member_of e) refl
    where
      by : (r : Result BusMember (List ℕ)) → member_of e ≡ r → AtMost (called s conn e o).state.rules
      by (Ok member) g = rw g (answers_most member s conn e.body o (λ r. f (adding_of e member g r)) h)
      by (Err name) g = rw g h

  named_most : (a b c : Bool) (s : BusState) (conn : ℕ) (e : Envelope) (o : Option (List Condition)) (calls : List OpenCall) → (e.kind == 1) ≡ b → (Adds e → Room s.rules (k ≡ conn)) → AtMost s.rules
      → AtMost (if a then (if b then called s conn e o else speaks s []) else (if c then undeliverable s conn e else record { state = record s { calls = calls }; moves = handed s e })).state.rules
  named_most true true c s conn e o calls one f h = called_most s conn e o (λ t. f (and_both (e.kind == 1) (is_text e.member add_match) one t)) h
  named_most true false c s conn e o calls one f h = h
  named_most false b true s conn e o calls one f h = h
  named_most false b false s conn e o calls one f h = h

  pub takes_most : (s : BusState) (conn : ℕ) (e : Envelope) (o : Option (List Condition)) → (Adds e → Room s.rules (k ≡ conn)) → AtMost s.rules → AtMost (bus_takes s conn e o).state.rules
  takes_most s conn e o f h = by (unique_of s.owners conn) refl
    where
      hello_by : (b : Bool) → AtMost (if b then greets s conn e else record { state = s; moves = closes conn ∷ [] }).state.rules
      hello_by true = h
      hello_by false = h

      by : (u : Option (List ℕ)) → unique_of s.owners conn ≡ u → AtMost (bus_takes s conn e o).state.rules
      by (Some own) g =
          let m : Envelope = record e { sender = Some own } in
          rw g (named_most (is_for_bus m) (e.kind == 1) (is_unowned e.destination (receivers s m)) s conn m o (calls_after_all s.calls conn m (receivers s m)) refl f h)
      by None g = rw g (hello_by (is_hello e))

  -- closings
  pub left_most : (c : Carried) (conn : ℕ) → AtMost c.bus.state.rules → AtMost (left c conn).bus.state.rules
  left_most c conn h = let le = rules_less k conn c.bus.state.rules in omega (arith, le, h)

  one_most : (c : Carried) (due : List (ℕ × Why)) → AtMost c.bus.state.rules → AtMost (one_closed c due).bus.state.rules
  one_most c [] h = h
  one_most c (first ∷ rest) h = let le = rules_less k first.0 c.bus.state.rules in omega (arith, le, h)

  pub settled_most : (rounds : ℕ) (c : Carried) → AtMost c.bus.state.rules → AtMost (settled rounds c).bus.state.rules
  settled_most zero c h = h
  settled_most (suc rounds) c h = settled_most rounds (one_closed c c.bus.waiting.due) (one_most c c.bus.waiting.due h)

-- WHAT IS KEPT
pub record Counted (es : List Entry) (w : World) : Type 0 where
  pub few : (k : ℕ) (e : End) → end_at w.ends k ≡ Some e → (e.who ≡ Registry → ⊥) → number k w.bus.state.rules ≤ adds_below es e.who (first_unread es e.who)
  pub free : (k : ℕ) → length w.ends ≤ k → number k w.bus.state.rules ≤ 0

grows_few : (es ys : List Entry) (who : Party) (n : ℕ) → n ≤ adds_below es who (first_unread es who) → n ≤ adds_below (es ++ ys) who (first_unread (es ++ ys) who)
grows_few es ys who n h = let more = adds_grow es ys who (first_unread es who) (first_unread (es ++ ys) who) (unread_more es ys who) in omega (arith, more, h)

-- ends that only last, and no more rules
lasts_counted : (es ys : List Entry) (w v : World) → (length v.ends ≡ length w.ends) → ((k : ℕ) (d : End) → end_at v.ends k ≡ Some d → (e : End) × (end_at w.ends k ≡ Some e) × (d.who ≡ e.who)) → ((k n : ℕ) → number k w.bus.state.rules ≤ n → number k v.bus.state.rules ≤ n) → Counted es w
    → Counted (es ++ ys) v
lasts_counted es ys w v size back fewer i = record {
  few = λ k d there other.
      let x = back k d there in
      fewer k (adds_below (es ++ ys) d.who (first_unread (es ++ ys) d.who)) (grows_few es ys d.who (number k w.bus.state.rules) (subst (λ p. number k w.bus.state.rules ≤ adds_below es p (first_unread es p)) (sym x.2) (i.few k x.0 x.1 (λ is. other (x.2 ∙ is)))));
  free = λ k le. fewer k 0 (i.free k (subst (λ n. n ≤ k) size le));
}

pub idle_counted : (es ys : List Entry) (w v : World) → Idle w v → Counted es w → Counted (es ++ ys) v
idle_counted es ys w v o i =
    lasts_counted es ys w v o.ends.size (λ k d h. let x = o.ends.back k d h in (x.0, x.1, x.2.whose)) (λ k n h. subst (λ rules. number k rules ≤ n) (sym o.rules) h) i

joined_counted : (es ys : List Entry) (w v : World) → Joining w v → Counted es w → Counted (es ++ ys) v
joined_counted es ys w v o i = record { few = λ k d there other. by k d other (joined_cases w.ends o.nu k d (ap (λ l. end_at l k) (sym o.ends) ∙ there)); free = λ k le. subst (λ rules. number k rules ≤ 0) (sym o.rules) (i.free k (shorter k le)) }
  where
    shorter : (k : ℕ) → length v.ends ≤ k → length w.ends ≤ k
    shorter k le = let size : length v.ends ≡ length (w.ends ++ o.nu ∷ []) = ap length o.ends in let sum = length-append w.ends (o.nu ∷ []) in omega (arith, size, sum, le)

    nothing : (n m : ℕ) → n ≤ 0 → n ≤ m
    nothing n m h = omega (arith, h)

    by : (k : ℕ) (d : End) → (d.who ≡ Registry → ⊥) → (end_at w.ends k ≡ Some d) ⊎ ((k ≡ length w.ends) × (d ≡ o.nu)) → number k v.bus.state.rules ≤ adds_below (es ++ ys) d.who (first_unread (es ++ ys) d.who)
    by k d other (inl h) =
        subst (λ rules. number k rules ≤ adds_below (es ++ ys) d.who (first_unread (es ++ ys) d.who)) (sym o.rules) (grows_few es ys d.who (number k w.bus.state.rules) (i.few k d h other))
    by k d other (inr h) =
        subst (λ rules. number k rules ≤ adds_below (es ++ ys) d.who (first_unread (es ++ ys) d.who)) (sym o.rules)
        (nothing (number k w.bus.state.rules) (adds_below (es ++ ys) d.who (first_unread (es ++ ys) d.who)) (i.free k (subst (λ n. n ≤ k) h.0 (least k))))

-- the bus takes a message, which is the next of its end
took_counted : (es : List Entry) (w : World) (d : Done) (b : BusTakes w d) → message es b.e.who b.said.message.serial ≡ Some b.said.message → b.said.message.serial ≡ first_unread es b.e.who
    → b.said.message.serial < first_unread (es ++ d.entries) b.e.who → Counted es w → Counted (es ++ d.entries) d.world
took_counted es w d b found next taken i = record {
  few = λ k z there other. subst (λ x. number k x.world.bus.state.rules ≤ adds_below later z.who (first_unread later z.who)) (sym b.is) (settled_most k (adds_below later z.who (first_unread later z.who)) (length w.bus.state.joined) done_
      (takes_most k (adds_below later z.who (first_unread later z.who)) w.bus.state b.conn e0 (rule_in e0) (room k z there other) (old k z there other)));
  free = λ k le. subst (λ x. number k x.world.bus.state.rules ≤ 0) (sym b.is) (settled_most k 0 (length w.bus.state.joined) done_
      (takes_most k 0 w.bus.state b.conn e0 (rule_in e0) (λ add. inl (λ same. beyond k same (low k le))) (i.free k (low k le))));
}
  where
    later : List Entry
    later = es ++ d.entries

    e0 : Envelope
    e0 = b.said.message

    o : Over Lasts w.ends d.world.ends
    o = bus_takes_over w d b

    done_ : Carried
    done_ =
        carrying.with_name b.conn
        (carrying.stepped (carrying.letter_of b.e.who b.said) (record { bus = w.bus; ends = carrying_taken }) (bus_takes w.bus.state b.conn e0 (rule_in e0)))
      where
        carrying_taken : List End
        carrying_taken = with_end b.conn taken_up w.ends

    low : (k : ℕ) → length d.world.ends ≤ k → length w.ends ≤ k
    low k le = subst (λ n. n ≤ k) o.size le

    beyond : (k : ℕ) → k ≡ b.conn → length w.ends ≤ k → ⊥
    beyond k same le = let there : b.conn < length w.ends = at_below w.ends b.conn b.e b.is_here.there in absurd (omega (arith, same, le, there))

    old : (k : ℕ) (z : End) → end_at d.world.ends k ≡ Some z → (z.who ≡ Registry → ⊥) → number k w.bus.state.rules ≤ adds_below later z.who (first_unread later z.who)
    old k z there other =
        let x = o.back k z there in
        grows_few es d.entries z.who (number k w.bus.state.rules) (subst (λ p. number k w.bus.state.rules ≤ adds_below es p (first_unread es p)) (sym x.2.whose) (i.few k x.0 x.1 (λ is. other (x.2.whose ∙ is))))

    room : (k : ℕ) (z : End) → end_at d.world.ends k ≡ Some z → (z.who ≡ Registry → ⊥) → Adds e0 → Room k (adds_below later z.who (first_unread later z.who)) w.bus.state.rules (k ≡ b.conn)
    room k z there other add = by (k == b.conn) refl
      where
        x : (e : End) × (end_at w.ends k ≡ Some e) × Lasts e z
        x = o.back k z there

        by : (t : Bool) → (k == b.conn) ≡ t → Room k (adds_below later z.who (first_unread later z.who)) w.bus.state.rules (k ≡ b.conn)
        by false g = inl (λ same. false_true (sym g ∙ eq-eqb k b.conn same))
        by true g = inr (omega (arith, was, one))
          where
            same : x.0 ≡ b.e
            same = same_some x.0 b.e (sym x.1 ∙ ap (end_at w.ends) (eqb-true k b.conn g) ∙ b.is_here.there)

            who : z.who ≡ b.e.who
            who = x.2.whose ∙ ap (λ (e : End). e.who) same

            was : number k w.bus.state.rules ≤ adds_below es z.who e0.serial
            was = subst (λ n. number k w.bus.state.rules ≤ adds_below es z.who n) (sym (next ∙ ap (first_unread es) (sym who))) (subst (λ p. number k w.bus.state.rules ≤ adds_below es p (first_unread es p)) (sym x.2.whose) (i.few k x.0 x.1 (λ is. other (x.2.whose ∙ is))))

            here_ : suc (adds_among e0.serial (messages es z.who)) ≤ adds_among (first_unread later z.who) (messages es z.who)
            here_ = adds_with e0.serial (first_unread later z.who) (messages es z.who) e0 (ap (λ p. message es p e0.serial) who ∙ found) add (subst (λ p. e0.serial < first_unread later p) (sym who) taken)

            one : suc (adds_below es z.who e0.serial) ≤ adds_below later z.who (first_unread later z.who)
            one = let on : adds_among (first_unread later z.who) (messages es z.who) ≤ adds_below later z.who (first_unread later z.who) = adds_grow es d.entries z.who (first_unread later z.who) (first_unread later z.who) (least (first_unread later z.who)) in
                omega (arith, here_, on)

ended_counted : (es : List Entry) (w : World) (d : Done) (b : BusEnds w d) → Counted es w → Counted (es ++ d.entries) d.world
ended_counted es w d b i =
    let o : Over Lasts w.ends d.world.ends = bus_ends_over w d b in
    let c : Carried = record { bus = w.bus; ends = w.ends } in
    lasts_counted es d.entries w d.world o.size (λ k z h. let x = o.back k z h in (x.0, x.1, x.2.whose))
    (λ k n h. subst (λ x. number k x.world.bus.state.rules ≤ n) (sym b.is) (settled_most k n (length w.bus.state.joined) (left c b.conn) (left_most k n c b.conn h))) i

first_counted : (es : List Entry) (quota : ℕ) → Counted es (first_world quota)
first_counted es quota = record { few = by; free = beyond }
  where
    by : (k : ℕ) (e : End) → end_at (first_registry ∷ []) k ≡ Some e → (e.who ≡ Registry → ⊥) → number k (first_world quota).bus.state.rules ≤ adds_below es e.who (first_unread es e.who)
    by zero e h other = absurd (other (ap (λ (x : End). x.who) (sym (same_some first_registry e h))))
    by (suc k) e h other = absurd (no_none e h)

    beyond : (k : ℕ) → 1 ≤ k → number k (first_world quota).bus.state.rules ≤ 0
    beyond zero le = absurd (omega (arith, le))
    beyond (suc k) le = none (0 == suc k) refl
      where
        none : (t : Bool) → (0 == suc k) ≡ t → counted t 0 ≤ 0
        none true g = let same : 0 ≡ suc k = eqb-true 0 (suc k) g in absurd (omega (arith, same))
        none false g = omega arith

pub counted_kept : (es : List Entry) (w : World) (d : Done) → ((b : BusTakes w d) → (message es b.e.who b.said.message.serial ≡ Some b.said.message) × (b.said.message.serial ≡ first_unread es b.e.who) × (b.said.message.serial < first_unread (es ++ d.entries) b.e.who))
    → Form w d → Counted es w → Counted (es ++ d.entries) d.world
counted_kept es w d f (idles o) i = idle_counted es d.entries w d.world o i
counted_kept es w d f (joins o) i = joined_counted es d.entries w d.world o i
counted_kept es w d f (takes_ b) i = let x = f b in took_counted es w d b x.0 x.1 x.2 i
counted_kept es w d f (ends_ b) i = ended_counted es w d b i
counted_kept es w d f (begins_ quota is) i = subst (λ x. Counted (es ++ x.entries) x.world) (sym is) (first_counted (es ++ []) quota)

pub counted_first : Counted [] (first_world QUOTA_MOST)
counted_first = first_counted [] QUOTA_MOST
