-- What the bus does to unique names: a Hello gives the next one to who says it, and nothing else changes any, but that who leaves has none.
use Rattle.std.proofs.Common.{◌≡◌, ◌⊎◌, inl, inr, ℕ, zero, suc, Bool, true, false, List, [], ◌∷◌, ◌++◌, Option, None, Some, refl, sym, ap, ◌∙◌, cond}
use Rattle.std.specs.Prelude.{◌==◌, ◌-◌, codes, if◌then◌else◌, Result, Ok, Err}
use Rattle.std.specs.List.{list_any}
use Rattle.std.specs.FinMap as finmap
use Rattle.std.specs.FinMap.{get-remove, get-insert, nat_cmp-IsAntisymmetric}
use Rattle.std.specs.Ordering.{nat_cmp, eq_by_cmp}
use Rattle.std.specs.Cmp.{nat_cmp_total, eq_by_cmp_equiv}
use Rattle.std.proofs.lemmas.Bool.{eq-eqb}
use Rattle.atspi_types.specs.Data.{Data}
use Rattle.atspi_message.specs.Envelope.{Envelope}
use Rattle.atspi_match.specs.declared.condition.Condition.{Condition}
use Rattle.atspi_match.specs.RuleIndex.{is_pair, rules_of, without_first}
use Rattle.atspi_names.specs.Owners.{Owners, unique_name, after_gone}
use Rattle.atspi_match.specs.declared.routing.closing.Why.{Why}
use Rattle.atspi_match.specs.declared.routing.closing.Closing.{Closing}
use Rattle.atspi_match.specs.declared.routing.member.BusMember.{BusMember}
use Rattle.atspi_match.specs.declared.routing.member.BusMember.TheVariants.{Hello, RequestName, ReleaseName, NameHasOwner, GetNameOwner, ListNames, ListQueuedOwners, AddMatch, RemoveMatch, GetId, Ping}
use Rattle.atspi_match.specs.routing.BusState.{OpenCall, BusState, unique_of}
use Rattle.atspi_match.specs.routing.Members.{member_of}
use Rattle.atspi_match.specs.routing.Answers.{fails, returns, Answer, only, answers, may_be_asked_for, first_text, second_number, requests, releases, adds_rule, removes_rule}
use Rattle.atspi_match.specs.routing.Routing.{receivers, is_for_bus}
use Rattle.atspi_match.specs.routing.Steps.{handed, speaks, called, undeliverable, is_unowned, calls_after_all, greets, bus_takes}
use Rattle.atspi_trace.specs.Carrying.{Carried, one_closed, settled}
use Rattle.atspi_trace_laws.proofs.OfOrder.Parties.{false_true}
use Rattle.atspi_trace_laws.proofs.OfQuiet.Hello.{is_of, any_more, any_last, equal_of_tie}

-- the same names, and as many given
abbrev pub SameAs : Owners → Owners → Type 0
SameAs o p = (p.unique ≡ o.unique) × (p.given ≡ o.given)

if_same : (b : Bool) (x y : Answer) (o : Owners) → SameAs o x.owners → SameAs o y.owners → SameAs o (if b then x else y).owners
if_same true x y o a c = a
if_same false x y o a c = c

adds_same : (s : BusState) (conn : ℕ) (o : Option (List Condition)) → SameAs s.owners (adds_rule s conn o).owners
adds_same s conn None = (refl, refl)
adds_same s conn (Some rule) =
    if_same (rules_of conn s.rules == 512) (only s (fails (codes "LimitsExceeded"))) (record (only s (returns [])) { rules = s.rules ++ (conn, rule) ∷ [] }) s.owners (refl, refl) (refl, refl)

removes_same : (s : BusState) (conn : ℕ) (o : Option (List Condition)) → SameAs s.owners (removes_rule s conn o).owners
removes_same s conn None = (refl, refl)
removes_same s conn (Some rule) =
    if_same (list_any (is_pair conn rule) s.rules) (record (only s (returns [])) { rules = without_first s.rules conn rule }) (only s (fails (codes "MatchRuleNotFound"))) s.owners (refl, refl) (refl, refl)

answers_same : (member : BusMember) (s : BusState) (conn : ℕ) (args : List Data) (rule : Option (List Condition)) → SameAs s.owners (answers member s conn args rule).owners
answers_same Hello s conn args rule = (refl, refl)
answers_same RequestName s conn args rule =
    if_same (may_be_asked_for (first_text args)) (requests s conn (first_text args) (second_number args)) (only s (fails (codes "InvalidArgs"))) s.owners (refl, refl) (refl, refl)
answers_same ReleaseName s conn args rule = if_same (may_be_asked_for (first_text args)) (releases s conn (first_text args)) (only s (fails (codes "InvalidArgs"))) s.owners (refl, refl) (refl, refl)
answers_same NameHasOwner s conn args rule = (refl, refl)
answers_same GetNameOwner s conn args rule = (refl, refl)
answers_same ListNames s conn args rule = (refl, refl)
answers_same ListQueuedOwners s conn args rule = (refl, refl)
answers_same AddMatch s conn args rule = adds_same s conn rule
answers_same RemoveMatch s conn args rule = removes_same s conn rule
answers_same GetId s conn args rule = (refl, refl)
answers_same Ping s conn args rule = (refl, refl)

pub called_same : (s : BusState) (conn : ℕ) (e : Envelope) (rule : Option (List Condition)) → SameAs s.owners (called s conn e rule).state.owners
called_same s conn e rule = by (member_of e) refl
  where
    by : (r : Result BusMember (List ℕ)) → member_of e ≡ r → SameAs s.owners (called s conn e rule).state.owners
    by (Ok member) h = rw h (answers_same member s conn e.body rule)
    by (Err name) h = rw h (refl, refl)

named_same : (a b c : Bool) (s : BusState) (conn : ℕ) (e : Envelope) (rule : Option (List Condition)) (calls : List OpenCall)
    → SameAs s.owners (if a then (if b then called s conn e rule else speaks s []) else (if c then undeliverable s conn e else record { state = record s { calls = calls }; moves = handed s e })).state.owners
named_same true true c s conn e rule calls = called_same s conn e rule
named_same true false c s conn e rule calls = (refl, refl)
named_same false b true s conn e rule calls = (refl, refl)
named_same false b false s conn e rule calls = (refl, refl)

-- a message of one that has its name
pub takes_same : (s : BusState) (conn : ℕ) (e : Envelope) (rule : Option (List Condition)) (own : List ℕ) → unique_of s.owners conn ≡ Some own → SameAs s.owners (bus_takes s conn e rule).state.owners
takes_same s conn e rule own h =
    let m : Envelope = record e { sender = Some own } in
    rw h (named_same (is_for_bus m) (e.kind == 1) (is_unowned e.destination (receivers s m)) s conn m rule (calls_after_all s.calls conn m (receivers s m)))

-- a Hello
pub hello_here : (s : BusState) (conn : ℕ) (e : Envelope) → unique_of (greets s conn e).state.owners conn ≡ Some (unique_name s.owners.given)
hello_here s conn e =
    get-insert nat_cmp_total s.owners.unique conn (unique_name s.owners.given) conn
    ∙ ap (λ b. cond b (Some (unique_name s.owners.given)) (finmap.get s.owners.unique conn)) ((eq_by_cmp_equiv nat_cmp_total).refl conn)

pub hello_other : (s : BusState) (conn k : ℕ) (e : Envelope) → (k ≡ conn → ⊥) → unique_of (greets s conn e).state.owners k ≡ unique_of s.owners k
hello_other s conn k e differ = get-insert nat_cmp_total s.owners.unique conn (unique_name s.owners.given) k ∙ by (eq_by_cmp nat_cmp k conn) refl
  where
    by : (b : Bool) → eq_by_cmp nat_cmp k conn ≡ b → cond b (Some (unique_name s.owners.given)) (finmap.get s.owners.unique k) ≡ unique_of s.owners k
    by true g = absurd (differ (nat_cmp-IsAntisymmetric k conn (equal_of_tie _ g)))
    by false g = refl

pub gone_other : (owners : Owners) (conn k : ℕ) → (conn ≡ k → ⊥) → unique_of (after_gone owners conn) k ≡ unique_of owners k
gone_other owners conn k differ = get-remove nat_cmp_total owners.unique conn k ∙ by (eq_by_cmp nat_cmp k conn) refl
  where
    by : (b : Bool) → eq_by_cmp nat_cmp k conn ≡ b → cond b None (finmap.get owners.unique k) ≡ unique_of owners k
    by true g = absurd (differ (sym (nat_cmp-IsAntisymmetric k conn (equal_of_tie _ g))))
    by false g = refl

pub gone_less : (owners : Owners) (conn k : ℕ) → unique_of owners k ≡ None → unique_of (after_gone owners conn) k ≡ None
gone_less owners conn k none = get-remove nat_cmp_total owners.unique conn k ∙ by (eq_by_cmp nat_cmp k conn)
  where
    by : (b : Bool) → cond b None (finmap.get owners.unique k) ≡ None
    by true = refl
    by false = none

-- CLOSINGS
pub record KeptNames (names : ℕ → Option (List ℕ)) (given : ℕ) (leaver : ℕ → Type 0) (c : Carried) : Type 0 where
  pub count : c.bus.state.owners.given ≡ given
  pub same : (k : ℕ) → (leaver k → ⊥) → (unique_of c.bus.state.owners k ≡ names k) ⊎ (list_any (is_of k) c.bus.closings ≡ true)
  pub less : (k : ℕ) → names k ≡ None → unique_of c.bus.state.owners k ≡ None

one_names : (names : ℕ → Option (List ℕ)) (given : ℕ) (leaver : ℕ → Type 0) (c : Carried) (due : List (ℕ × Why)) → KeptNames names given leaver c → KeptNames names given leaver (one_closed c due)
one_names names given leaver c [] r = r
one_names names given leaver c (first ∷ rest) r = record {
  count = r.count;
  same = λ k stays. by k (first.0 == k) refl (r.same k stays);
  less = λ k none. gone_less c.bus.state.owners first.0 k (r.less k none);
}
  where
    closing : Closing
    closing = record { conn = first.0; why = first.1; after = c.bus.state.next - 1 }

    by : (k : ℕ) (b : Bool) → (first.0 == k) ≡ b → ((unique_of c.bus.state.owners k ≡ names k) ⊎ (list_any (is_of k) c.bus.closings ≡ true))
        → (unique_of (after_gone c.bus.state.owners first.0) k ≡ names k) ⊎ (list_any (is_of k) (c.bus.closings ++ closing ∷ []) ≡ true)
    by k true g h = inr (any_last k c.bus.closings closing g)
    by k false g (inl h) = inl (gone_other c.bus.state.owners first.0 k (λ same. false_true (sym g ∙ eq-eqb first.0 k same)) ∙ h)
    by k false g (inr h) = inr (any_more k c.bus.closings (closing ∷ []) h)

pub settled_names : (names : ℕ → Option (List ℕ)) (given : ℕ) (leaver : ℕ → Type 0) (rounds : ℕ) (c : Carried) → KeptNames names given leaver c → KeptNames names given leaver (settled rounds c)
settled_names names given leaver zero c r = r
settled_names names given leaver (suc rounds) c r = settled_names names given leaver rounds (one_closed c c.bus.waiting.due) (one_names names given leaver c c.bus.waiting.due r)

pub left_names : (c : Carried) (conn : ℕ) → (k : ℕ) → (conn ≡ k → ⊥) → unique_of (after_gone c.bus.state.owners conn) k ≡ unique_of c.bus.state.owners k
left_names c conn k differ = gone_other c.bus.state.owners conn k differ
