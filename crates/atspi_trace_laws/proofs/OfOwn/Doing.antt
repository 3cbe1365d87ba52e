-- What the bus does with a message, in the three forms that there are: it says messages of its own, it hands the message on, or it closes who said no Hello.
use Rattle.std.proofs.Common.{◌≡◌, ◌⊎◌, inl, inr, ℕ, Bool, true, false, List, [], ◌∷◌, Option, None, Some, refl, sym, ap, ◌∙◌, cond, is_some}
use Rattle.std.specs.Prelude.{◌==◌, codes, if◌then◌else◌, Result, Ok, Err}
use Rattle.std.specs.List.{list_any}
use Rattle.std.specs.FinMap as finmap
use Rattle.std.specs.FinMap.{get-insert}
use Rattle.std.specs.Ordering.{nat_cmp, eq_by_cmp}
use Rattle.std.proofs.lemmas.Cmp.{nat_cmp_total}
use Rattle.atspi_types.specs.Data.{Data}
use Rattle.atspi_message.specs.Envelope.{Envelope}
use Rattle.atspi_names.specs.Owners.{Owners, own_name, unique_name, after_hello}
use Rattle.atspi_match.specs.declared.condition.Condition.{Condition}
use Rattle.atspi_match.specs.RuleIndex.{is_pair, rules_of, without_first}
use Rattle.atspi_match.specs.declared.routing.member.BusMember.{BusMember}
use Rattle.atspi_match.specs.declared.routing.member.BusMember.TheVariants.{Hello, RequestName, ReleaseName, NameHasOwner, GetNameOwner, ListNames, ListQueuedOwners, AddMatch, RemoveMatch, GetId, Ping}
use Rattle.atspi_match.specs.routing.BusState.{OpenCall, BusState, unique_of}
use Rattle.atspi_match.specs.routing.Members.{is_text, member_of}
use Rattle.atspi_match.specs.routing.Answers.{fails, returns, Answer, only, answers, may_be_asked_for, first_text, second_number, requests, releases, adds_rule, removes_rule}
use Rattle.atspi_match.specs.routing.Routing.{receivers, is_for_bus}
use Rattle.atspi_match.specs.routing.Steps.{closes, BusStep, handed, speaks, called, undeliverable, is_unowned, calls_after_all, is_hello, greets, bus_takes}

-- who is named stays named
abbrev pub StayNamed : Owners → Owners → Type 0
StayNamed before after = (conn : ℕ) → is_some (unique_of before conn) ≡ true → is_some (unique_of after conn) ≡ true

-- a unique name is an old one, or one that is not the bus's own
abbrev pub NewNames : Owners → Owners → Type 0
NewNames before after = (conn : ℕ) (name : List ℕ) → unique_of after conn ≡ Some name → (unique_of before conn ≡ Some name) ⊎ (is_text (Some name) own_name ≡ false)

pub data Doing (s : BusState) (conn : ℕ) (step : BusStep) : Type 0 where
  says_ : (t : BusState) (es : List Envelope) → t.next ≡ s.next → StayNamed s.owners t.owners → NewNames s.owners t.owners → step ≡ speaks t es → Doing s conn step
  hands_ : (calls : List OpenCall) (e : Envelope) → e.sender ≡ unique_of s.owners conn → step ≡ record { state = record s { calls = calls }; moves = handed s e } → Doing s conn step
  closes_ : unique_of s.owners conn ≡ None → step ≡ record { state = s; moves = closes conn ∷ [] } → Doing s conn step

-- an answer changes no unique name
if_unique : (b : Bool) (x y : Answer) (o : Owners) → x.owners.unique ≡ o.unique → y.owners.unique ≡ o.unique → (if b then x else y).owners.unique ≡ o.unique
if_unique true x y o a c = a
if_unique false x y o a c = c

adds_unique : (s : BusState) (conn : ℕ) (o : Option (List Condition)) → (adds_rule s conn o).owners.unique ≡ s.owners.unique
adds_unique s conn None = refl
adds_unique s conn (Some rule) = if_unique (rules_of conn s.rules == 512) (only s (fails (codes "LimitsExceeded"))) (record (only s (returns [])) { rules = _ }) s.owners refl refl

removes_unique : (s : BusState) (conn : ℕ) (o : Option (List Condition)) → (removes_rule s conn o).owners.unique ≡ s.owners.unique
removes_unique s conn None = refl
removes_unique s conn (Some rule) =
    if_unique (list_any (is_pair conn rule) s.rules) (record (only s (returns [])) { rules = without_first s.rules conn rule }) (only s (fails (codes "MatchRuleNotFound"))) s.owners refl refl

unique_same : (member : BusMember) (s : BusState) (conn : ℕ) (args : List Data) (rule : Option (List Condition)) → (answers member s conn args rule).owners.unique ≡ s.owners.unique
unique_same Hello s conn args rule = refl
unique_same RequestName s conn args rule =
    if_unique (may_be_asked_for (first_text args)) (requests s conn (first_text args) (second_number args)) (only s (fails (codes "InvalidArgs"))) s.owners refl refl
unique_same ReleaseName s conn args rule = if_unique (may_be_asked_for (first_text args)) (releases s conn (first_text args)) (only s (fails (codes "InvalidArgs"))) s.owners refl refl
unique_same NameHasOwner s conn args rule = refl
unique_same GetNameOwner s conn args rule = refl
unique_same ListNames s conn args rule = refl
unique_same ListQueuedOwners s conn args rule = refl
unique_same AddMatch s conn args rule = adds_unique s conn rule
unique_same RemoveMatch s conn args rule = removes_unique s conn rule
unique_same GetId s conn args rule = refl
unique_same Ping s conn args rule = refl

-- Hello names one more
hello_named : (owners : Owners) (conn : ℕ) → StayNamed owners (after_hello owners conn)
hello_named owners conn k h =
    ap is_some (get-insert nat_cmp_total owners.unique conn (unique_name owners.given) k) ∙ by (eq_by_cmp nat_cmp k conn)
  where
    by : (b : Bool) → is_some (cond b (Some (unique_name owners.given)) (finmap.get owners.unique k)) ≡ true
    by true = refl
    by false = h

hello_new : (owners : Owners) (conn : ℕ) → NewNames owners (after_hello owners conn)
hello_new owners conn k name h = by (eq_by_cmp nat_cmp k conn) (sym (get-insert nat_cmp_total owners.unique conn (unique_name owners.given) k) ∙ h)
  where
    by : (b : Bool) → cond b (Some (unique_name owners.given)) (finmap.get owners.unique k) ≡ Some name → (unique_of owners k ≡ Some name) ⊎ (is_text (Some name) own_name ≡ false)
    by true g = inr (ap (λ n. is_text n own_name) (sym g))
    by false g = inl g

called_doing : (s : BusState) (from conn : ℕ) (e : Envelope) (rule : Option (List Condition)) → Doing s from (called s conn e rule)
called_doing s from conn e rule = by (member_of e) refl
  where
    by : (r : Result BusMember (List ℕ)) → member_of e ≡ r → Doing s from (called s conn e rule)
    by (Ok member) h =
        let a : Answer = answers member s conn e.body rule in
        rw h (says_ (record s { owners = a.owners; rules = a.rules }) _ refl (λ k n. ap (λ u. is_some (finmap.get u k)) (unique_same member s conn e.body rule) ∙ n) (λ k name g. inl (ap (λ u. finmap.get u k) (sym (unique_same member s conn e.body rule)) ∙ g)) refl)
    by (Err name) h = rw h (says_ (record s { owners = s.owners; rules = s.rules }) _ refl (λ k n. n) (λ k name g. inl g) refl)

named_doing : (a b c : Bool) (s : BusState) (from conn : ℕ) (e : Envelope) (rule : Option (List Condition)) (calls : List OpenCall)
    → e.sender ≡ unique_of s.owners from → Doing s from (if a then (if b then called s conn e rule else speaks s []) else (if c then undeliverable s conn e else record { state = record s { calls = calls }; moves = handed s e }))
named_doing true true c s from conn e rule calls own = called_doing s from conn e rule
named_doing true false c s from conn e rule calls own = says_ s [] refl (λ k n. n) (λ k name g. inl g) refl
named_doing false b true s from conn e rule calls own = says_ s _ refl (λ k n. n) (λ k name g. inl g) refl
named_doing false b false s from conn e rule calls own = hands_ calls e own refl

pub doing_of : (s : BusState) (conn : ℕ) (e : Envelope) (rule : Option (List Condition)) → Doing s conn (bus_takes s conn e rule)
doing_of s conn e rule = by (unique_of s.owners conn) refl
  where
    hello_by : (b : Bool) → unique_of s.owners conn ≡ None → Doing s conn (if b then greets s conn e else record { state = s; moves = closes conn ∷ [] })
    hello_by true none = says_ (record s { owners = after_hello s.owners conn }) _ refl (hello_named s.owners conn) (hello_new s.owners conn) refl
    hello_by false none = closes_ none refl

    by : (o : Option (List ℕ)) → unique_of s.owners conn ≡ o → Doing s conn (bus_takes s conn e rule)
    by (Some own) h =
        let m : Envelope = record e { sender = Some own } in
        rw h (named_doing (is_for_bus m) (e.kind == 1) (is_unowned e.destination (receivers s m)) s conn conn m rule (calls_after_all s.calls conn m (receivers s m)) (sym h))
    by None h = rw h (hello_by (is_hello e) h)
