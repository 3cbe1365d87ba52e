-- The list of a unique name holds no connection but the one that has it, whatever the bus does.
use Rattle.std.proofs.Common.{◌≡◌, ◌⊎◌, inl, inr, ℕ, zero, suc, Bool, true, false, List, [], ◌∷◌, ◌++◌, Option, None, Some, refl, sym, ap, ◌∙◌}
use Rattle.std.specs.Prelude.{◌==◌, ◌&&◌, ◌||◌, not, bytes_eq, codes, if◌then◌else◌, Result, Ok, Err}
use Rattle.std.specs.List.{list_any}
use Rattle.std.proofs.lemmas.Bool.{eqb-true, eq-eqb}
use Rattle.std.proofs.lemmas.Slice.Eq.{bytes_eq-Decides}
use Rattle.atspi_types.specs.Data.{Data}
use Rattle.atspi_base.specs.valid_names.Names.{is_bus_name, is_unique_name}
use Rattle.atspi_message.specs.Envelope.{Envelope}
use Rattle.atspi_match.specs.declared.condition.Condition.{Condition}
use Rattle.atspi_match.specs.RuleIndex.{is_pair, rules_of, without_first}
use Rattle.atspi_names.specs.Owners.{Owners, own_name, list_of, with_list, unique_name, after_gone}
use Rattle.atspi_names.specs.Queue.{stands, requested, released, owner_in}
use Rattle.atspi_names.proofs.BookLemmas.{list_here, list_of-lists_without, stands-without}
use Rattle.atspi_names.proofs.OwnersLemmas.{list_elsewhere}
use Rattle.atspi_match.specs.declared.routing.closing.Why.{Why}
use Rattle.atspi_match.specs.declared.routing.member.BusMember.{BusMember}
use Rattle.atspi_match.specs.declared.routing.member.BusMember.TheVariants.{Hello, RequestName, ReleaseName, NameHasOwner, GetNameOwner, ListNames, ListQueuedOwners, AddMatch, RemoveMatch, GetId, Ping}
use Rattle.atspi_match.specs.routing.BusState.{OpenCall, BusState, unique_of}
use Rattle.atspi_match.specs.routing.Members.{member_of}
use Rattle.atspi_match.specs.routing.Answers.{Answer, only, fails, returns, answers, may_be_asked_for, first_text, second_number, requests, releases, adds_rule, removes_rule}
use Rattle.atspi_match.specs.routing.Routing.{receivers, is_for_bus, owners_of, one_or_none}
use Rattle.atspi_match.specs.routing.Steps.{handed, speaks, called, undeliverable, is_unowned, calls_after_all, is_hello, greets, closes, bus_takes}
use Rattle.atspi_trace.specs.Carrying.{Carried, one_closed, settled}
use Rattle.atspi_trace_laws.proofs.OfOrder.Parties.{no_none, false_true}
use Rattle.atspi_trace_laws.proofs.OfNames.Naming.{hello_here, hello_other, gone_other}

abbrev pub OwnLists : Owners → Type 0
OwnLists o = (name : List ℕ) (k : ℕ) → is_unique_name name ≡ true → stands k (list_of o.lists name) ≡ true → unique_of o k ≡ Some name

-- a list of another name
other_list : (o : Owners) (name : List ℕ) (list : List (ℕ × ℕ)) → is_unique_name name ≡ false → OwnLists o → OwnLists (record o { lists = with_list o.lists name list })
other_list o name list plain i q k u st = i q k u (ap (stands k) (sym (list_elsewhere o.lists name list q differ)) ∙ st)
  where
    differ : q ≡ name → ⊥
    differ e = false_true (sym plain ∙ ap is_unique_name (sym e) ∙ u)

-- which names are asked for
and_right : (a b : Bool) → (a && b) ≡ true → b ≡ true
and_right true b h = h
and_right false b h = absurd (false_true h)

and_left : (a b : Bool) → (a && b) ≡ true → a ≡ true
and_left true b h = refl
and_left false b h = absurd (false_true h)

not_true : (a : Bool) → not a ≡ true → a ≡ false
not_true true h = absurd (false_true h)
not_true false h = refl

asked_plain : (name : List ℕ) → may_be_asked_for name ≡ true → is_unique_name name ≡ false
asked_plain name h =
    not_true (is_unique_name name)
    (and_left (not (is_unique_name name)) (not (bytes_eq name own_name)) (and_right (is_bus_name name) (not (is_unique_name name) && not (bytes_eq name own_name)) h))

if_lists : (b : Bool) (x y : Answer) → (b ≡ true → OwnLists x.owners) → OwnLists y.owners → OwnLists (if b then x else y).owners
if_lists true x y f g = f refl
if_lists false x y f g = g

adds_lists : (s : BusState) (conn : ℕ) (o : Option (List Condition)) → OwnLists s.owners → OwnLists (adds_rule s conn o).owners
adds_lists s conn None i = i
adds_lists s conn (Some rule) i =
    if_lists (rules_of conn s.rules == 512) (only s (fails (codes "LimitsExceeded"))) (record (only s (returns [])) { rules = s.rules ++ (conn, rule) ∷ [] }) (λ h. i) i

removes_lists : (s : BusState) (conn : ℕ) (o : Option (List Condition)) → OwnLists s.owners → OwnLists (removes_rule s conn o).owners
removes_lists s conn None i = i
removes_lists s conn (Some rule) i =
    if_lists (list_any (is_pair conn rule) s.rules) (record (only s (returns [])) { rules = without_first s.rules conn rule }) (only s (fails (codes "MatchRuleNotFound"))) (λ h. i) i

answers_lists : (member : BusMember) (s : BusState) (conn : ℕ) (args : List Data) (rule : Option (List Condition)) → OwnLists s.owners → OwnLists (answers member s conn args rule).owners
answers_lists Hello s conn args rule i = i
answers_lists RequestName s conn args rule i =
    if_lists (may_be_asked_for (first_text args)) (requests s conn (first_text args) (second_number args)) (only s (fails (codes "InvalidArgs")))
    (λ h. other_list s.owners (first_text args) (requested (list_of s.owners.lists (first_text args)) conn (second_number args)).0 (asked_plain (first_text args) h) i) i
answers_lists ReleaseName s conn args rule i =
    if_lists (may_be_asked_for (first_text args)) (releases s conn (first_text args)) (only s (fails (codes "InvalidArgs")))
    (λ h. other_list s.owners (first_text args) (released (list_of s.owners.lists (first_text args)) conn).0 (asked_plain (first_text args) h) i) i
answers_lists NameHasOwner s conn args rule i = i
answers_lists GetNameOwner s conn args rule i = i
answers_lists ListNames s conn args rule i = i
answers_lists ListQueuedOwners s conn args rule i = i
answers_lists AddMatch s conn args rule i = adds_lists s conn rule i
answers_lists RemoveMatch s conn args rule i = removes_lists s conn rule i
answers_lists GetId s conn args rule i = i
answers_lists Ping s conn args rule i = i

pub called_lists : (s : BusState) (conn : ℕ) (e : Envelope) (rule : Option (List Condition)) → OwnLists s.owners → OwnLists (called s conn e rule).state.owners
called_lists s conn e rule i = by (member_of e) refl
  where
    by : (r : Result BusMember (List ℕ)) → member_of e ≡ r → OwnLists (called s conn e rule).state.owners
    by (Ok member) h = rw h (answers_lists member s conn e.body rule i)
    by (Err name) h = rw h i

named_lists : (a b c : Bool) (s : BusState) (conn : ℕ) (e : Envelope) (rule : Option (List Condition)) (calls : List OpenCall) → OwnLists s.owners
    → OwnLists (if a then (if b then called s conn e rule else speaks s []) else (if c then undeliverable s conn e else record { state = record s { calls = calls }; moves = handed s e })).state.owners
named_lists true true c s conn e rule calls i = called_lists s conn e rule i
named_lists true false c s conn e rule calls i = i
named_lists false b true s conn e rule calls i = i
named_lists false b false s conn e rule calls i = i

-- a Hello: the new name is the connection's alone
pub greets_lists : (s : BusState) (conn : ℕ) (e : Envelope) → unique_of s.owners conn ≡ None → OwnLists s.owners → OwnLists (greets s conn e).state.owners
greets_lists s conn e none i q k u st = by (bytes_eq q (unique_name s.owners.given)) refl
  where
    new : List ℕ
    new = unique_name s.owners.given

    or_first : (a b : Bool) → (a || b) ≡ true → b ≡ false → a ≡ true
    or_first true b h g = refl
    or_first false b h g = absurd (false_true (sym g ∙ h))

    by : (b : Bool) → bytes_eq q new ≡ b → unique_of (greets s conn e).state.owners k ≡ Some q
    by true g =
        let same : q ≡ new = (bytes_eq-Decides q new).0 g in
        let alone : stands k ((conn, 0) ∷ []) ≡ true = ap (stands k) (sym (list_here s.owners.lists new ((conn, 0) ∷ []))) ∙ ap (λ n. stands k (list_of (with_list s.owners.lists new ((conn, 0) ∷ [])) n)) (sym same) ∙ st in
        let it : conn ≡ k = eqb-true conn k (or_first (conn == k) false alone refl) in
        ap (unique_of (greets s conn e).state.owners) (sym it) ∙ hello_here s conn e ∙ ap Some (sym same)
    by false g =
        let differ : q ≡ new → ⊥ = λ same. false_true (sym g ∙ (bytes_eq-Decides q new).1 same) in
        let old : unique_of s.owners k ≡ Some q = i q k u (ap (stands k) (sym (list_elsewhere s.owners.lists new ((conn, 0) ∷ []) q differ)) ∙ st) in
        hello_other s conn k e (λ same. no_none q (sym none ∙ ap (unique_of s.owners) (sym same) ∙ old)) ∙ old

pub takes_lists : (s : BusState) (conn : ℕ) (e : Envelope) (rule : Option (List Condition)) → OwnLists s.owners → OwnLists (bus_takes s conn e rule).state.owners
takes_lists s conn e rule i = by (unique_of s.owners conn) refl
  where
    hello_by : (b : Bool) → unique_of s.owners conn ≡ None → OwnLists (if b then greets s conn e else record { state = s; moves = closes conn ∷ [] }).state.owners
    hello_by true none = greets_lists s conn e none i
    hello_by false none = i

    by : (o : Option (List ℕ)) → unique_of s.owners conn ≡ o → OwnLists (bus_takes s conn e rule).state.owners
    by (Some own) h =
        let m : Envelope = record e { sender = Some own } in
        rw h (named_lists (is_for_bus m) (e.kind == 1) (is_unowned e.destination (receivers s m)) s conn m rule (calls_after_all s.calls conn m (receivers s m)) i)
    by None h = rw h (hello_by (is_hello e) h)

-- one leaves
pub gone_lists : (o : Owners) (conn : ℕ) → OwnLists o → OwnLists (after_gone o conn)
gone_lists o conn i q k u st =
    let left : (not (conn == k) && stands k (list_of o.lists q)) ≡ true = sym (stands-without conn k (list_of o.lists q)) ∙ ap (stands k) (sym (list_of-lists_without conn o.lists q)) ∙ st in
    let other : (conn == k) ≡ false = not_true (conn == k) (and_left (not (conn == k)) (stands k (list_of o.lists q)) left) in
    gone_other o conn k (λ same. false_true (sym other ∙ eq-eqb conn k same)) ∙ i q k u (and_right (not (conn == k)) (stands k (list_of o.lists q)) left)

one_lists : (c : Carried) (due : List (ℕ × Why)) → OwnLists c.bus.state.owners → OwnLists (one_closed c due).bus.state.owners
one_lists c [] i = i
one_lists c (first ∷ rest) i = gone_lists c.bus.state.owners first.0 i

pub settled_lists : (rounds : ℕ) (c : Carried) → OwnLists c.bus.state.owners → OwnLists (settled rounds c).bus.state.owners
settled_lists zero c i = i
settled_lists (suc rounds) c i = settled_lists rounds (one_closed c c.bus.waiting.due) (one_lists c c.bus.waiting.due i)

-- WHO IS HANDED A MESSAGE TO A UNIQUE NAME
abbrev pub IsIn : ℕ → List ℕ → Type 0
IsIn c [] = ⊥
IsIn c (x ∷ xs) = (c ≡ x) ⊎ IsIn c xs

pub owner_has : (s : BusState) (name : List ℕ) (c : ℕ) → OwnLists s.owners → is_unique_name name ≡ true → IsIn c (owners_of s name) → unique_of s.owners c ≡ Some name
owner_has s name c i u is = by (list_of s.owners.lists name) refl is
  where
    first : (f : ℕ × ℕ) (rest : List (ℕ × ℕ)) → c ≡ f.0 → stands c (f ∷ rest) ≡ true
    first f rest e = ap (λ b. b || stands c rest) (eq-eqb f.0 c (sym e))

    by : (l : List (ℕ × ℕ)) → list_of s.owners.lists name ≡ l → IsIn c (one_or_none (owner_in l)) → unique_of s.owners c ≡ Some name
    by [] h g = absurd g
    by (f ∷ rest) h (inl e) = i name c u (ap (stands c) h ∙ first f rest e)
    by (f ∷ rest) h (inr g) = absurd g
