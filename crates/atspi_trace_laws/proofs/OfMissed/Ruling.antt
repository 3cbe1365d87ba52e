-- What becomes of a connection's match rules: nothing takes one from it but its own RemoveMatch and its leaving, and an AddMatch that is returned puts it there.
use Rattle.std.proofs.Common.{◌≡◌, ◌⊎◌, inl, inr, ℕ, zero, suc, Bool, true, false, List, [], ◌∷◌, ◌++◌, length, map, Option, None, Some, refl, sym, ap, ◌∙◌, subst, arith}
use Rattle.std.specs.Prelude.{◌==◌, ◌&&◌, not, filter, codes, if◌then◌else◌, Result, Ok, Err}
use Rattle.std.specs.List.{AllByRecursion, list_any}
use Rattle.std.proofs.lemmas.Bool.{eqb-true}
use lib.Utf8.{encode}
use Rattle.atspi_types.specs.Data.{Data}
use Rattle.atspi_script_lines.specs.declared.line.Party.{Party}
use Rattle.atspi_message.specs.Envelope.{Envelope}
use Rattle.atspi_match.specs.declared.condition.Condition.{Condition}
use Rattle.atspi_match.specs.RuleIndex.{is_pair, rules_of, without_first, without_rules}
use Rattle.atspi_match.specs.declared.routing.closing.Why.{Why}
use Rattle.atspi_match.specs.declared.routing.member.BusMember.{BusMember}
use Rattle.atspi_match.specs.declared.routing.member.BusMember.TheVariants.{Hello, RequestName, ReleaseName, NameHasOwner, GetNameOwner, ListNames, ListQueuedOwners, AddMatch, RemoveMatch, GetId, Ping}
use Rattle.atspi_match.specs.routing.BusState.{OpenCall, BusState, unique_of}
use Rattle.atspi_match.specs.routing.OwnMessages.{error_to}
use Rattle.atspi_match.specs.routing.Members.{MemberLine, is_text, is_of, first_line, with_arguments, member_lines, member_of}
use Rattle.atspi_match.specs.routing.Answers.{returns, fails, Answer, only, answers, may_be_asked_for, first_text, second_number, requests, releases, adds_rule, removes_rule}
use Rattle.atspi_match.specs.routing.Routing.{receivers, is_for_bus, expects_reply}
use Rattle.atspi_match.specs.routing.Steps.{Move, delivers, closes, BusStep, handed, speaks, replies, answered, called, undeliverable, is_unowned, calls_after_all, is_hello, greets, bus_takes, bus_leaves}
use Rattle.atspi_match.specs.routing.Queues.{without_queue}
use Rattle.atspi_protocol.specs.declared.following.question.Question.TheVariants.{AddMatch as AsksMatch}
use Rattle.atspi_protocol.specs.following.Calls.{asking}
use Rattle.atspi_trace.specs.Rules.{rule_in}
use Rattle.atspi_trace.specs.World.{here, Said, End}
use Rattle.atspi_trace.specs.Ends.{is_here, end_at, with_end, taken_up, leaves}
use Rattle.atspi_trace.specs.Carrying.{Carried, own_letter, letter_of, stepped, left, one_closed, settled, named, with_name, takes, takes_end}
use Rattle.atspi_trace_laws.proofs.OfOrder.Parties.{no_none, same_some, false_true}
use Rattle.atspi_trace_laws.proofs.OfOrder.Frame.{stepped_over, over_with, with_cases}
use Rattle.atspi_trace_laws.proofs.OfTaken.Handing.{HandsOn}
use Rattle.atspi_trace_laws.proofs.OfMissed.Arriving.{Goes_on, going, put_goes, name_goes, up_goes}

-- THE RULES OF A CONNECTION
abbrev pub Has : ℕ → List Condition → List (ℕ × List Condition) → Type 0
Has conn rule [] = ⊥
Has conn rule (p ∷ ps) = ((p.0 ≡ conn) × (p.1 ≡ rule)) ⊎ Has conn rule ps

has_front : (conn : ℕ) (rule : List Condition) (ps qs : List (ℕ × List Condition)) → Has conn rule ps → Has conn rule (ps ++ qs)
has_front conn rule [] qs h = absurd h
has_front conn rule (p ∷ ps) qs (inl h) = inl h
has_front conn rule (p ∷ ps) qs (inr h) = inr (has_front conn rule ps qs h)

has_last : (conn : ℕ) (rule : List Condition) (ps : List (ℕ × List Condition)) → Has conn rule (ps ++ (conn, rule) ∷ [])
has_last conn rule [] = inl (refl, refl)
has_last conn rule (p ∷ ps) = inr (has_last conn rule ps)

-- those of another go
and_left : (a b : Bool) → (a && b) ≡ true → a ≡ true
and_left true b h = refl
and_left false b h = absurd (false_true h)

has_first : (conn k : ℕ) (gone rule : List Condition) (ps : List (ℕ × List Condition)) → (k ≡ conn → ⊥) → Has k rule ps → Has k rule (without_first ps conn gone)
has_first conn k gone rule [] differ h = h
has_first conn k gone rule (p ∷ ps) differ h = by (is_pair conn gone p) refl h (λ g. has_first conn k gone rule ps differ g)
  where
    by : (b : Bool) → is_pair conn gone p ≡ b → ((p.0 ≡ k) × (p.1 ≡ rule)) ⊎ Has k rule ps → (Has k rule ps → Has k rule (without_first ps conn gone)) → Has k rule (if b then ps else p ∷ without_first ps conn gone)
    by true g (inl i) f = absurd (differ (sym i.0 ∙ eqb-true p.0 conn (and_left (p.0 == conn) _ g)))
    by true g (inr i) f = i
    by false g (inl i) f = inl i
    by false g (inr i) f = inr (f i)

has_rest : (conn k : ℕ) (rule : List Condition) (ps : List (ℕ × List Condition)) → (k ≡ conn → ⊥) → Has k rule ps → Has k rule (without_rules conn ps)
has_rest conn k rule [] differ h = h
has_rest conn k rule (p ∷ ps) differ h = by (p.0 == conn) refl h (λ g. has_rest conn k rule ps differ g)
  where
    by : (b : Bool) → (p.0 == conn) ≡ b → ((p.0 ≡ k) × (p.1 ≡ rule)) ⊎ Has k rule ps → (Has k rule ps → Has k rule (without_rules conn ps)) → Has k rule (if not b then p ∷ without_rules conn ps else without_rules conn ps)
    by true g (inl i) f = absurd (differ (sym i.0 ∙ eqb-true p.0 conn g))
    by true g (inr i) f = f i
    by false g (inl i) f = inl i
    by false g (inr i) f = inr (f i)

-- WHICH CALL REMOVES ONE
abbrev is_removal : BusMember → Bool
is_removal RemoveMatch = true
is_removal member = false

abbrev remove_match : List ℕ
remove_match = codes "RemoveMatch"

abbrev pub Removes : Envelope → Type 0
Removes e = is_text e.member remove_match ≡ true

-- a line that passes
first_passes : (p : MemberLine → Bool) (Q : MemberLine → Type 0) (ls : List MemberLine) (l : MemberLine) → AllByRecursion Q ls → first_line (filter p ls) ≡ Some l → (p l ≡ true) × Q l
first_passes p Q [] l a h = absurd (no_none l h)
first_passes p Q (x ∷ xs) l a h = by (p x) refl h (λ g. first_passes p Q xs l a.1 g)
  where
    by : (b : Bool) → p x ≡ b → first_line (if b then x ∷ filter p xs else filter p xs) ≡ Some l → (first_line (filter p xs) ≡ Some l → (p l ≡ true) × Q l) → (p l ≡ true) × Q l
    by true g k f = let same : x ≡ l = same_some x l k in (ap p (sym same) ∙ g, subst Q same a.0)
    by false g k f = f k

abbrev OfRemoval : MemberLine → Type 0
OfRemoval l = is_removal l.member ≡ true → l.name ≡ remove_match

removal_lines : AllByRecursion OfRemoval member_lines
removal_lines =
    ((λ h. absurd (false_true h)), ((λ h. absurd (false_true h)), ((λ h. absurd (false_true h)), ((λ h. absurd (false_true h)), ((λ h. absurd (false_true h)), ((λ h. absurd (false_true h)), ((λ h. absurd (false_true h)), ((λ h. absurd (false_true h)), ((λ h. refl), ((λ h. absurd (false_true h)), ((λ h. absurd (false_true h)), tt)))))))))))

and_right : (a b : Bool) → (a && b) ≡ true → b ≡ true
and_right true b h = h
and_right false b h = absurd (false_true h)

removal_of : (e : Envelope) (member : BusMember) → member_of e ≡ Ok member → is_removal member ≡ true → Removes e
removal_of e member h r = by (list_any (is_of e.interface) member_lines) h
  where
    ok_or : BusMember → Result BusMember (List ℕ) → BusMember
    ok_or d (Ok m) = m
    ok_or d (Err name) = d

    is_err : Result BusMember (List ℕ) → Bool
    is_err (Ok m) = false
    is_err (Err name) = true

    never : (name : List ℕ) → Err name ≡ Ok member → ⊥
    never name g = false_true (sym (ap is_err g))

    its : (o : Option MemberLine) → first_line (filter (λ l. is_of e.interface l && is_text e.member l.name) member_lines) ≡ o → with_arguments e o ≡ Ok member → Removes e
    its None g k = absurd (never _ k)
    its (Some l) g k = args _ k
      where
        x : ((is_of e.interface l && is_text e.member l.name) ≡ true) × OfRemoval l
        x = first_passes (λ (m : MemberLine). is_of e.interface m && is_text e.member m.name) OfRemoval member_lines l removal_lines g

        args : (b : Bool) → (if b then Ok l.member else Err (codes "InvalidArgs")) ≡ Ok member → Removes e
        args true q =
            let same : l.member ≡ member = ap (ok_or l.member) q in
            ap (is_text e.member) (sym (x.1 (ap is_removal same ∙ r))) ∙ and_right (is_of e.interface l) (is_text e.member l.name) x.0
        args false q = absurd (never _ q)

    by : (b : Bool) → (if b then with_arguments e (first_line (filter (λ l. is_of e.interface l && is_text e.member l.name) member_lines)) else Err (codes "UnknownInterface")) ≡ Ok member → Removes e
    by true g = its (first_line (filter (λ l. is_of e.interface l && is_text e.member l.name) member_lines)) refl g
    by false g = absurd (never _ g)

-- THE BUS TAKES A MESSAGE
module _ (k : ℕ) (rule : List Condition) where
  abbrev pub HasIt : List (ℕ × List Condition) → Type 0
  HasIt rules = Has k rule rules

  if_has : (b : Bool) (x y : Answer) → HasIt x.rules → HasIt y.rules → HasIt (if b then x else y).rules
  if_has true x y a c = a
  if_has false x y a c = c

  adds_has : (s : BusState) (conn : ℕ) (o : Option (List Condition)) → HasIt s.rules → HasIt (adds_rule s conn o).rules
  adds_has s conn None h = h
  adds_has s conn (Some new) h =
      if_has (rules_of conn s.rules == 512) (only s (fails (codes "LimitsExceeded"))) (record (only s (returns [])) { rules = s.rules ++ (conn, new) ∷ [] }) h (has_front k rule s.rules ((conn, new) ∷ []) h)

  removes_has : (s : BusState) (conn : ℕ) (o : Option (List Condition)) → (k ≡ conn → ⊥) → HasIt s.rules → HasIt (removes_rule s conn o).rules
  removes_has s conn None differ h = h
  removes_has s conn (Some gone) differ h =
      if_has (list_any (is_pair conn gone) s.rules) (record (only s (returns [])) { rules = without_first s.rules conn gone }) (only s (fails (codes "MatchRuleNotFound"))) (has_first conn k gone rule s.rules differ h) h

  answers_has : (member : BusMember) (s : BusState) (conn : ℕ) (args : List Data) (o : Option (List Condition)) → (is_removal member ≡ true → k ≡ conn → ⊥) → HasIt s.rules → HasIt (answers member s conn args o).rules
  answers_has Hello s conn args o f h = h
  answers_has RequestName s conn args o f h =
      if_has (may_be_asked_for (first_text args)) (requests s conn (first_text args) (second_number args)) (only s (fails (codes "InvalidArgs"))) h h
  answers_has ReleaseName s conn args o f h = if_has (may_be_asked_for (first_text args)) (releases s conn (first_text args)) (only s (fails (codes "InvalidArgs"))) h h
  answers_has NameHasOwner s conn args o f h = h
  answers_has GetNameOwner s conn args o f h = h
  answers_has ListNames s conn args o f h = h
  answers_has ListQueuedOwners s conn args o f h = h
  answers_has AddMatch s conn args o f h = adds_has s conn o h
  answers_has RemoveMatch s conn args o f h = removes_has s conn o (f refl) h
  answers_has GetId s conn args o f h = h
  answers_has Ping s conn args o f h = h

  called_has : (s : BusState) (conn : ℕ) (e : Envelope) (o : Option (List Condition)) → (Removes e → k ≡ conn → ⊥) → HasIt s.rules → HasIt (called s conn e o).state.rules
  called_has s conn e o f h = by (member_of e) refl
    where
      by : (r : Result BusMember (List ℕ)) → member_of e ≡ r → HasIt (called s conn e o).state.rules
      by (Ok member) g = rw g (answers_has member s conn e.body o (λ r. f (removal_of e member g r)) h)
      by (Err name) g = rw g h

  named_has : (a b c : Bool) (s : BusState) (conn : ℕ) (e : Envelope) (o : Option (List Condition)) (calls : List OpenCall) → (Removes e → k ≡ conn → ⊥) → HasIt s.rules
      → HasIt (if a then (if b then called s conn e o else speaks s []) else (if c then undeliverable s conn e else record { state = record s { calls = calls }; moves = handed s e })).state.rules
  named_has true true c s conn e o calls f h = called_has s conn e o f h
  named_has true false c s conn e o calls f h = h
  named_has false b true s conn e o calls f h = h
  named_has false b false s conn e o calls f h = h

  pub takes_has : (s : BusState) (conn : ℕ) (e : Envelope) (o : Option (List Condition)) → (Removes e → k ≡ conn → ⊥) → HasIt s.rules → HasIt (bus_takes s conn e o).state.rules
  takes_has s conn e o f h = by (unique_of s.owners conn) refl
    where
      hello_by : (b : Bool) → HasIt (if b then greets s conn e else record { state = s; moves = closes conn ∷ [] }).state.rules
      hello_by true = h
      hello_by false = h

      by : (u : Option (List ℕ)) → unique_of s.owners conn ≡ u → HasIt (bus_takes s conn e o).state.rules
      by (Some own) g =
          let m : Envelope = record e { sender = Some own } in
          rw g (named_has (is_for_bus m) (e.kind == 1) (is_unowned e.destination (receivers s m)) s conn m o (calls_after_all s.calls conn m (receivers s m)) f h)
      by None g = rw g (hello_by (is_hello e))

  -- CLOSINGS: an end that is here keeps its rule
  abbrev pub Keeps_rule : Carried → Type 0
  Keeps_rule c = (e : End) → end_at c.ends k ≡ Some e → e.standing ≡ here → HasIt c.bus.state.rules

  left_rule : (c : Carried) (conn : ℕ) → Keeps_rule c → Keeps_rule (left c conn)
  left_rule c conn h e there on = by (with_cases leaves c.ends conn k x.0 x.1)
    where
      without : Carried
      without = record { bus = record c.bus { waiting = without_queue c.bus.waiting conn }; ends = with_end conn leaves c.ends }

      x : (d : End) × (end_at without.ends k ≡ Some d) × Goes_on d e
      x = (stepped_over Goes_on going own_letter (λ m d. put_goes (own_letter m) d) without (bus_leaves c.bus.state conn)).back k e there

      by : ((d : End) × (end_at c.ends k ≡ Some d) × (((k ≡ conn) × (x.0 ≡ leaves d)) ⊎ ((k ≡ conn → ⊥) × (x.0 ≡ d)))) → HasIt (without_rules conn c.bus.state.rules)
      by g = at g.2
        where
          at : (((k ≡ conn) × (x.0 ≡ leaves g.0)) ⊎ ((k ≡ conn → ⊥) × (x.0 ≡ g.0))) → HasIt (without_rules conn c.bus.state.rules)
          at (inl a) = absurd (false_true (ap (λ (y : End). is_here y.standing) (sym a.1) ∙ ap is_here (x.2.on on)))
          at (inr a) = has_rest conn k rule c.bus.state.rules a.0 (h g.0 g.1 (ap (λ (y : End). y.standing) (sym a.1) ∙ x.2.on on))

  one_rule : (c : Carried) (due : List (ℕ × Why)) → Keeps_rule c → Keeps_rule (one_closed c due)
  one_rule c [] h = h
  one_rule c (first ∷ rest) h = left_rule c first.0 h

  settled_rule : (rounds : ℕ) (c : Carried) → Keeps_rule c → Keeps_rule (settled rounds c)
  settled_rule zero c h = h
  settled_rule (suc rounds) c h = settled_rule rounds (one_closed c c.bus.waiting.due) (one_rule c c.bus.waiting.due h)

  -- behind a message: where the rule is there once the message is taken, it is there behind the closings
  pub took_rule : (c : Carried) (conn : ℕ) (who : Party) (said : Said) → ((e : End) → end_at c.ends k ≡ Some e → e.standing ≡ here → HasIt (bus_takes c.bus.state conn said.message (rule_in said.message)).state.rules) → Keeps_rule (takes c conn who said)
  took_rule c conn who said h = settled_rule (length c.bus.state.joined) (with_name conn b) now
    where
      a : Carried
      a = record c { ends = with_end conn taken_up c.ends }

      step : BusStep
      step = bus_takes c.bus.state conn said.message (rule_in said.message)

      b : Carried
      b = stepped (letter_of who said) a step

      now : Keeps_rule (with_name conn b)
      now e there on =
          let x = (over_with Goes_on going (named b.bus conn) (name_goes b.bus conn) conn b.ends).back k e there in
          let y = (stepped_over Goes_on going (letter_of who said) (λ m d. put_goes (letter_of who said m) d) a step).back k x.0 x.1 in
          let z = (over_with Goes_on going taken_up up_goes conn c.ends).back k y.0 y.1 in
          h z.0 z.1 (z.2.on (y.2.on (x.2.on on)))

  pub ended_rule : (c : Carried) (conn : ℕ) → Keeps_rule c → Keeps_rule (takes_end c conn)
  ended_rule c conn h = settled_rule (length c.bus.state.joined) (left c conn) (left_rule c conn h)

-- THE BUS TAKES AN AddMatch: the rule is there, or nothing that it says is a return
abbrev pub NoReturn : Envelope → Type 0
NoReturn m = m.kind ≡ 2 → ⊥

called_ok : (s : BusState) (conn : ℕ) (e : Envelope) (rule : Option (List Condition)) (member : BusMember) → member_of e ≡ Ok member → called s conn e rule ≡ answered s conn e (answers member s conn e.body rule)
called_ok s conn e rule member h = rw h refl

match_asked : (n : ℕ) (text own : List ℕ) → member_of (record (asking n (AsksMatch text)) { sender = Some own }) ≡ Ok AddMatch
unfolding encode
match_asked n text own = refl

no_two : (e : Envelope) → e.kind ≡ 3 → NoReturn e
no_two e h g = three (sym h ∙ g)
  where
    three : ◌≡◌ {A = ℕ} 3 2 → ⊥
    three q = omega (arith, q)

handed_none : (m : Envelope) (conns : List ℕ) → NoReturn m → AllByRecursion (HandsOn NoReturn) (map (λ c. delivers c m) conns)
handed_none m [] h = tt
handed_none m (c ∷ cs) h = (h, handed_none m cs h)

-- so is an error alone
error_none : (s : BusState) (conn : ℕ) (e : Envelope) (name : List ℕ) → AllByRecursion (HandsOn NoReturn) (speaks s (replies s conn e (fails name))).moves
error_none s conn e name = by (expects_reply e)
  where
    by : (b : Bool) → AllByRecursion (HandsOn NoReturn) (speaks s (if b then error_to (unique_of s.owners conn) e.serial name ∷ [] else [])).moves
    by true = (tt, all_append_ (handed_none m (receivers s m) (no_two m refl)))
      where
        m : Envelope
        m = record (error_to (unique_of s.owners conn) e.serial name) { serial = s.next }

        all_append_ : AllByRecursion (HandsOn NoReturn) (handed s m) → AllByRecursion (HandsOn NoReturn) (handed s m ++ [])
        all_append_ a = append (handed s m) a
          where
            append : (ms : List Move) → AllByRecursion (HandsOn NoReturn) ms → AllByRecursion (HandsOn NoReturn) (ms ++ [])
            append [] h = tt
            append (x ∷ xs) h = (h.0, append xs h.1)
    by false = tt

pub match_taken : (s : BusState) (conn n : ℕ) (text : List ℕ) (rule : List Condition)
    → Has conn rule (bus_takes s conn (asking n (AsksMatch text)) (Some rule)).state.rules ⊎ AllByRecursion (HandsOn NoReturn) (bus_takes s conn (asking n (AsksMatch text)) (Some rule)).moves
match_taken s conn n text rule = by (unique_of s.owners conn) refl
  where
    e : Envelope
    e = asking n (AsksMatch text)

    adds : (b : Bool) (own : List ℕ) → (x : Answer) → x ≡ (if b then only s (fails (codes "LimitsExceeded")) else record (only s (returns [])) { rules = s.rules ++ (conn, rule) ∷ [] })
        → Has conn rule (answered s conn (record e { sender = Some own }) x).state.rules ⊎ AllByRecursion (HandsOn NoReturn) (answered s conn (record e { sender = Some own }) x).moves
    adds true own x is = inr (subst (λ y. AllByRecursion (HandsOn NoReturn) (answered s conn (record e { sender = Some own }) y).moves) (sym is) (error_none (record s { owners = s.owners; rules = s.rules }) conn (record e { sender = Some own }) (codes "LimitsExceeded")))
    adds false own x is = inl (subst (λ y. Has conn rule (answered s conn (record e { sender = Some own }) y).state.rules) (sym is) (has_last conn rule s.rules))

    by : (u : Option (List ℕ)) → unique_of s.owners conn ≡ u → Has conn rule (bus_takes s conn e (Some rule)).state.rules ⊎ AllByRecursion (HandsOn NoReturn) (bus_takes s conn e (Some rule)).moves
    by None g = rw g (inr (tt, tt))
    by (Some own) g = rw g (its (called s conn (record e { sender = Some own }) (Some rule)) (is_answer own))
      where
        is_answer : (own : List ℕ) → called s conn (record e { sender = Some own }) (Some rule) ≡ answered s conn (record e { sender = Some own }) (adds_rule s conn (Some rule))
        is_answer own = called_ok s conn (record e { sender = Some own }) (Some rule) AddMatch (match_asked n text own)

        its : (x : BusStep) → x ≡ answered s conn (record e { sender = Some own }) (adds_rule s conn (Some rule)) → Has conn rule x.state.rules ⊎ AllByRecursion (HandsOn NoReturn) x.moves
        its x is =
            subst (λ (y : BusStep). Has conn rule y.state.rules ⊎ AllByRecursion (HandsOn NoReturn) y.moves) (sym is)
            (adds (rules_of conn s.rules == 512) own (adds_rule s conn (Some rule)) refl)
