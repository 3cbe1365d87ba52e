-- The registry's news go to each that has its rule; and what a connection sends that is no call for it changes no match rule.
use Rattle.std.proofs.Common.{◌≡◌, ◌⊎◌, inl, inr, ℕ, Bool, true, false, List, [], ◌∷◌, Option, None, Some, refl, sym, ap, ◌∙◌, subst}
use Rattle.std.specs.Prelude.{◌==◌, ◌&&◌, ◌||◌, filter, codes, if◌then◌else◌}
use Rattle.std.specs.List.{list_any}
use Rattle.std.proofs.lemmas.Bool.{eq-eqb}
use lib.Utf8.{encode}
use Rattle.std.specs.Prelude.{encode_utf8_all}
use Rattle.atspi_message.specs.Envelope.{Envelope}
use Rattle.atspi_match.specs.declared.condition.Condition.{Condition}
use Rattle.atspi_names.specs.Owners.{Owners, list_of}
use Rattle.atspi_names.specs.Queue.{owner_in}
use Rattle.atspi_protocol.specs.ends.Places.{registry}
use Rattle.atspi_protocol.specs.members.Asked.{is_text}
use Rattle.atspi_protocol.specs.exporting.Exporter.{StartCall, hello, add_match, get_registered_events, embed}
use Rattle.atspi_protocol.specs.exporting.Starting.{start_call, registry_signals}
use Rattle.atspi_match.specs.routing.BusState.{BusState, OpenCall, unique_of}
use Rattle.atspi_match.specs.routing.Routing.{matches, asks_for, receivers, is_same, is_owned_by, goes_by, passes, is_for_bus}
use Rattle.atspi_match.specs.routing.Steps.{handed, called, speaks, closes, passes_on, undeliverable, is_unowned, calls_after_all, is_hello, greets, takes_from_named, bus_takes}
use Rattle.atspi_trace.specs.Rules.{registry_rule, rules_asked, rule_written}
use Rattle.atspi_trace_laws.proofs.OfOrder.Parties.{false_true}
use Rattle.atspi_trace_laws.proofs.OfSigned.Unique.{IsIn}
use Rattle.atspi_trace_laws.proofs.OfMissed.Ruling.{Has, Removes}
use Rattle.atspi_trace_caches.proofs.OfServed.Facts.{IsNews}
use Rattle.atspi_trace_caches.proofs.OfServed.HearingWords.{IsStart}

-- THE RULE that an application asks for
pub registry_spelled : rule_written (encode_utf8_all registry_signals) rules_asked ≡ Some registry_rule
unfolding encode
registry_spelled = refl

-- WHO HAS THE RULE GETS THEM
and_both : (a b : Bool) → a ≡ true → b ≡ true → (a && b) ≡ true
and_both true b h g = g
and_both false b h g = absurd (false_true h)

or_true : (a b : Bool) → b ≡ true → (a || b) ≡ true
or_true true b h = refl
or_true false b h = h

asks_by : (k : ℕ) (rule : List Condition) (m : Envelope) (owners : Owners) (rules : List (ℕ × List Condition)) → matches m owners rule ≡ true → Has k rule rules
    → list_any (λ (p : ℕ × List Condition). p.0 == k && matches m owners p.1) rules ≡ true
asks_by k rule m owners [] h g = absurd g
asks_by k rule m owners (p ∷ ps) h (inl g) =
    ap (λ b. b || list_any (λ (q : ℕ × List Condition). q.0 == k && matches m owners q.1) ps)
    (and_both (p.0 == k) (matches m owners p.1) (eq-eqb p.0 k g.0) (ap (matches m owners) g.1 ∙ h))
asks_by k rule m owners (p ∷ ps) h (inr g) = or_true (p.0 == k && matches m owners p.1) (list_any (λ (q : ℕ × List Condition). q.0 == k && matches m owners q.1) ps) (asks_by k rule m owners ps h g)

same_text : (o : Option (List ℕ)) → is_text o registry ≡ true → is_same o registry ≡ true
same_text None h = h
same_text (Some text) h = h

-- the registry's name is its own
abbrev pub IsOwner : Owners → Type 0
IsOwner owners = (owner_in (list_of owners.lists registry) ≡ Some 0) × (unique_of owners 0 ≡ Some (codes ":1.0"))

goes_by_name : (owners : Owners) → IsOwner owners → goes_by owners registry (codes ":1.0") ≡ true
goes_by_name owners o = ap (λ c. is_owned_by owners (codes ":1.0") c) o.0 ∙ ap (λ u. is_same u (codes ":1.0")) o.1

news_match : (m : Envelope) (owners : Owners) → m.kind ≡ 4 → IsNews m → m.sender ≡ Some (codes ":1.0") → IsOwner owners → matches m owners registry_rule ≡ true
news_match m owners kind news sender o =
    and_both (m.kind == 4) (passes (goes_by owners registry) m.sender && (is_same m.interface registry && true)) (ap (λ n. n == 4) kind)
    (and_both (passes (goes_by owners registry) m.sender) (is_same m.interface registry && true) (ap (λ s. passes (goes_by owners registry) s) sender ∙ goes_by_name owners o)
    (and_both (is_same m.interface registry) true (same_text m.interface news) refl))

in_filter : (p : ℕ → Bool) (k : ℕ) (xs : List ℕ) → p k ≡ true → IsIn k xs → IsIn k (filter p xs)
in_filter p k [] h i = i
in_filter p k (x ∷ xs) h i = by (p x) refl i (λ j. in_filter p k xs h j)
  where
    by : (b : Bool) → p x ≡ b → (k ≡ x) ⊎ IsIn k xs → (IsIn k xs → IsIn k (filter p xs)) → IsIn k (if b then x ∷ filter p xs else filter p xs)
    by true g (inl same) f = inl same
    by true g (inr j) f = inr (f j)
    by false g (inl same) f = absurd (false_true (sym g ∙ ap p (sym same) ∙ h))
    by false g (inr j) f = f j

pub news_received : (s : BusState) (k : ℕ) (m : Envelope) → m.kind ≡ 4 → m.destination ≡ None → IsNews m → m.sender ≡ Some (codes ":1.0") → IsOwner s.owners → Has k registry_rule s.rules → IsIn k s.joined → IsIn k (receivers s m)
news_received s k m kind to_all news sender o has joined =
    subst (λ d. asks_for s (record m { destination = d }) k ≡ true → IsIn k (receivers s (record m { destination = d }))) (sym to_all) (λ asks. by (m.kind == 4) (ap (λ n. n == 4) kind) asks)
    (asks_by k registry_rule m s.owners s.rules (news_match m s.owners kind news sender o) has)
  where
    all : Envelope
    all = record m { destination = None }

    by : (b : Bool) → b ≡ true → asks_for s all k ≡ true → IsIn k (if b then filter (asks_for s all) s.joined else [])
    by true h asks = in_filter (asks_for s all) k s.joined asks joined
    by false h asks = absurd (false_true h)

pub news_handed : (s : BusState) (conn : ℕ) (e : Envelope) (rule : Option (List Condition)) (own : List ℕ) → e.kind ≡ 4 → e.destination ≡ None → unique_of s.owners conn ≡ Some own → (bus_takes s conn e rule).moves ≡ handed s (record e { sender = Some own })
news_handed s conn e rule own kind to_all named_ =
    rw named_ (subst (λ d. (takes_from_named s conn (record (record e { sender = Some own }) { destination = d }) rule).moves ≡ handed s (record (record e { sender = Some own }) { destination = d })) (sym to_all)
    (by (e.kind == 1) (ap (λ n. n == 1) kind)))
  where
    m : Envelope
    m = record (record e { sender = Some own }) { destination = None }

    by : (b : Bool) → b ≡ false → (if b then (if b then called s conn m rule else speaks s []) else passes_on s conn m).moves ≡ handed s m
    by true h = absurd (false_true (sym h))
    by false h = refl

-- WHAT IS NO CALL CHANGES NO RULE
named_rules : (a b c : Bool) (s : BusState) (conn : ℕ) (e : Envelope) (o : Option (List Condition)) (calls : List OpenCall) → b ≡ false
    → (if a then (if b then called s conn e o else speaks s []) else (if c then undeliverable s conn e else record { state = record s { calls = calls }; moves = handed s e })).state.rules ≡ s.rules
named_rules a true c s conn e o calls h = absurd (false_true (sym h))
named_rules true false c s conn e o calls h = refl
named_rules false false true s conn e o calls h = refl
named_rules false false false s conn e o calls h = refl

pub other_rules : (s : BusState) (conn : ℕ) (e : Envelope) (o : Option (List Condition)) → (e.kind == 1) ≡ false → (bus_takes s conn e o).state.rules ≡ s.rules
other_rules s conn e o none = by (unique_of s.owners conn) refl
  where
    hello_by : (b : Bool) → (if b then greets s conn e else record { state = s; moves = closes conn ∷ [] }).state.rules ≡ s.rules
    hello_by true = refl
    hello_by false = refl

    by : (u : Option (List ℕ)) → unique_of s.owners conn ≡ u → (bus_takes s conn e o).state.rules ≡ s.rules
    by (Some own) g =
        let m : Envelope = record e { sender = Some own } in
        rw g (named_rules (is_for_bus m) (e.kind == 1) (is_unowned e.destination (receivers s m)) s conn m o (calls_after_all s.calls conn m (receivers s m)) none)
    by None g = rw g (hello_by (is_hello e))

-- no call of an application's start takes a rule back
pub start_removes : (m : Envelope) → IsStart m → Removes m → ⊥
start_removes m i removes = by i.1 (subst Removes i.2 removes)
  where
    by : (call : StartCall) → Removes (record (start_call i.0 call) { serial = m.serial }) → ⊥
    by hello h = false_true h
    by add_match h = false_true h
    by get_registered_events h = false_true h
    by embed h = false_true h
