-- A connection that has a unique name is alone in its list, and the names to come are nobody's, whatever the bus does: so what goes to a unique name goes to who has it.
use Rattle.std.proofs.Common.{◌≡◌, ℕ, ◌<◌, ◌^◌, Bool, true, false, List, [], ◌∷◌, ◌++◌, Option, None, Some, refl, sym, ap, ◌∙◌, arith}
use Rattle.std.specs.Prelude.{◌==◌, ◌&&◌, not, bytes_eq, codes, if◌then◌else◌, Result, Ok, Err}
use Rattle.std.specs.List.{list_any}
use Rattle.std.specs.FinMap as finmap
use Rattle.std.specs.FinMap.{get-remove}
use Rattle.std.specs.Ordering.{nat_cmp, eq_by_cmp}
use Rattle.std.specs.Cmp.{nat_cmp_total, eq_by_cmp_equiv}
use Rattle.std.proofs.lemmas.Bool.{eqb-true, eq-eqb}
use Rattle.atspi_types.specs.Data.{Data}
use Rattle.atspi_base.specs.valid_names.Names.{is_bus_name, is_unique_name}
use Rattle.atspi_message.specs.Envelope.{Envelope}
use Rattle.atspi_match.specs.declared.condition.Condition.{Condition}
use Rattle.atspi_match.specs.RuleIndex.{is_pair, rules_of, without_first}
use Rattle.atspi_names.specs.Owners.{Owners, own_name, list_of, with_list, lists_without, unique_name, after_gone, NoneTooEarly}
use Rattle.atspi_names.specs.Queue.{requested, released, without, owner_in}
use Rattle.atspi_names.proofs.BookLemmas.{list_here, list_of-lists_without}
use Rattle.atspi_names.proofs.OwnersLemmas.{list_elsewhere, early-well_known, early-hello, early-gone}
use Rattle.atspi_match.specs.declared.routing.closing.Why.{Why}
use Rattle.atspi_match.specs.declared.routing.member.BusMember.{BusMember}
use Rattle.atspi_match.specs.declared.routing.member.BusMember.TheVariants.{Hello, RequestName, ReleaseName, NameHasOwner, GetNameOwner, ListNames, ListQueuedOwners, AddMatch, RemoveMatch, GetId, Ping}
use Rattle.atspi_match.specs.routing.BusState.{OpenCall, BusState, unique_of}
use Rattle.atspi_match.specs.routing.Members.{member_of}
use Rattle.atspi_match.specs.routing.Answers.{Answer, only, fails, returns, answers, may_be_asked_for, first_text, second_number, requests, releases, adds_rule, removes_rule}
use Rattle.atspi_match.specs.routing.Routing.{receivers, is_for_bus, owners_of, one_or_none}
use Rattle.atspi_match.specs.routing.Steps.{handed, speaks, called, undeliverable, is_unowned, calls_after_all, is_hello, greets, closes, bus_takes}
use Rattle.atspi_trace.specs.Carrying.{Carried, one_closed}
use Rattle.atspi_trace_laws.proofs.OfOrder.Parties.{no_none, same_some, false_true}
use Rattle.atspi_trace_laws.proofs.OfNames.Naming.{hello_here, hello_other, gone_other}

-- the list of who has a name
pub record IsOwner (o : Owners) (k : ℕ) (name : List ℕ) : Type 0 where
  pub flags : ℕ
  pub alone : list_of o.lists name ≡ (k, flags) ∷ []
  pub unique : is_unique_name name ≡ true

pub record Owned (o : Owners) : Type 0 where
  pub lists : (k : ℕ) (name : List ℕ) → unique_of o k ≡ Some name → IsOwner o k name
  pub early : NoneTooEarly o.given o.lists

-- one that asks for another name changes nothing of it
and_right : (a b : Bool) → (a && b) ≡ true → b ≡ true
and_right true b h = h
and_right false b h = absurd (false_true h)

and_left : (a b : Bool) → (a && b) ≡ true → a ≡ true
and_left true b h = refl
and_left false b h = absurd (false_true h)

not_true : (a : Bool) → not a ≡ true → a ≡ false
not_true true h = absurd (false_true h)
not_true false h = refl

other_owned : (o : Owners) (name : List ℕ) (list : List (ℕ × ℕ)) → is_unique_name name ≡ false → Owned o → Owned (record o { lists = with_list o.lists name list })
other_owned o name list plain i = record {
  lists = λ k q h.
      let old = i.lists k q h in
      record { flags = old.flags; alone = list_elsewhere o.lists name list q (λ e. false_true (sym plain ∙ ap is_unique_name (sym e) ∙ old.unique)) ∙ old.alone; unique = old.unique };
  early = early-well_known o.given o.lists (with_list o.lists name list) name list i.early plain refl;
}

asked_plain : (name : List ℕ) → may_be_asked_for name ≡ true → is_unique_name name ≡ false
asked_plain name h =
    not_true (is_unique_name name)
    (and_left (not (is_unique_name name)) (not (bytes_eq name own_name)) (and_right (is_bus_name name) (not (is_unique_name name) && not (bytes_eq name own_name)) h))

if_owned : (b : Bool) (x y : Answer) → (b ≡ true → Owned x.owners) → Owned y.owners → Owned (if b then x else y).owners
if_owned true x y f g = f refl
if_owned false x y f g = g

adds_owned : (s : BusState) (conn : ℕ) (o : Option (List Condition)) → Owned s.owners → Owned (adds_rule s conn o).owners
adds_owned s conn None i = i
adds_owned s conn (Some rule) i =
    if_owned (rules_of conn s.rules == 512) (only s (fails (codes "LimitsExceeded"))) (record (only s (returns [])) { rules = s.rules ++ (conn, rule) ∷ [] }) (λ h. i) i

removes_owned : (s : BusState) (conn : ℕ) (o : Option (List Condition)) → Owned s.owners → Owned (removes_rule s conn o).owners
removes_owned s conn None i = i
removes_owned s conn (Some rule) i =
    if_owned (list_any (is_pair conn rule) s.rules) (record (only s (returns [])) { rules = without_first s.rules conn rule }) (only s (fails (codes "MatchRuleNotFound"))) (λ h. i) i

answers_owned : (member : BusMember) (s : BusState) (conn : ℕ) (args : List Data) (rule : Option (List Condition)) → Owned s.owners → Owned (answers member s conn args rule).owners
answers_owned Hello s conn args rule i = i
answers_owned RequestName s conn args rule i =
    if_owned (may_be_asked_for (first_text args)) (requests s conn (first_text args) (second_number args)) (only s (fails (codes "InvalidArgs")))
    (λ h. other_owned s.owners (first_text args) (requested (list_of s.owners.lists (first_text args)) conn (second_number args)).0 (asked_plain (first_text args) h) i) i
answers_owned ReleaseName s conn args rule i =
    if_owned (may_be_asked_for (first_text args)) (releases s conn (first_text args)) (only s (fails (codes "InvalidArgs")))
    (λ h. other_owned s.owners (first_text args) (released (list_of s.owners.lists (first_text args)) conn).0 (asked_plain (first_text args) h) i) i
answers_owned NameHasOwner s conn args rule i = i
answers_owned GetNameOwner s conn args rule i = i
answers_owned ListNames s conn args rule i = i
answers_owned ListQueuedOwners s conn args rule i = i
answers_owned AddMatch s conn args rule i = adds_owned s conn rule i
answers_owned RemoveMatch s conn args rule i = removes_owned s conn rule i
answers_owned GetId s conn args rule i = i
answers_owned Ping s conn args rule i = i

pub called_owned : (s : BusState) (conn : ℕ) (e : Envelope) (rule : Option (List Condition)) → Owned s.owners → Owned (called s conn e rule).state.owners
called_owned s conn e rule i = by (member_of e) refl
  where
    by : (r : Result BusMember (List ℕ)) → member_of e ≡ r → Owned (called s conn e rule).state.owners
    by (Ok member) h = rw h (answers_owned member s conn e.body rule i)
    by (Err name) h = rw h i

named_owned : (a b c : Bool) (s : BusState) (conn : ℕ) (e : Envelope) (rule : Option (List Condition)) (calls : List OpenCall) → Owned s.owners
    → Owned (if a then (if b then called s conn e rule else speaks s []) else (if c then undeliverable s conn e else record { state = record s { calls = calls }; moves = handed s e })).state.owners
named_owned true true c s conn e rule calls i = called_owned s conn e rule i
named_owned true false c s conn e rule calls i = i
named_owned false b true s conn e rule calls i = i
named_owned false b false s conn e rule calls i = i

-- a Hello: the new name was nobody's
pub greets_owned : (s : BusState) (conn : ℕ) (e : Envelope) → s.owners.given < 2 ^ 32 → unique_of s.owners conn ≡ None → Owned s.owners → Owned (greets s conn e).state.owners
greets_owned s conn e small none i = record { lists = λ k q h. by k q h (k == conn) refl; early = early-hello s.owners.given s.owners.lists (with_list s.owners.lists new ((conn, 0) ∷ [])) new ((conn, 0) ∷ []) small i.early refl refl }
  where
    new : List ℕ
    new = unique_name s.owners.given

    nobody : list_of s.owners.lists new ≡ []
    nobody = i.early s.owners.given (omega arith) small

    empty : (x : ℕ × ℕ) → x ∷ [] ≡ [] → ⊥
    empty x h = cc

    by : (k : ℕ) (q : List ℕ) → unique_of (greets s conn e).state.owners k ≡ Some q → (b : Bool) → (k == conn) ≡ b → IsOwner (greets s conn e).state.owners k q
    by k q h true g =
        let at : k ≡ conn = eqb-true k conn g in
        let same : new ≡ q = same_some new q (sym (hello_here s conn e) ∙ ap (unique_of (greets s conn e).state.owners) (sym at) ∙ h) in
        record {
          flags = 0;
          alone = ap (list_of (with_list s.owners.lists new ((conn, 0) ∷ []))) (sym same) ∙ list_here s.owners.lists new ((conn, 0) ∷ []) ∙ ap (λ c. (c, 0) ∷ []) (sym at);
          unique = ap is_unique_name (sym same);
        }
    by k q h false g =
        let old = i.lists k q (sym (hello_other s conn k e (λ same. false_true (sym g ∙ eq-eqb k conn same))) ∙ h) in
        record {
          flags = old.flags;
          alone = list_elsewhere s.owners.lists new ((conn, 0) ∷ []) q (λ same. empty (k, old.flags) (sym old.alone ∙ ap (list_of s.owners.lists) same ∙ nobody)) ∙ old.alone;
          unique = old.unique;
        }

pub takes_owned : (s : BusState) (conn : ℕ) (e : Envelope) (rule : Option (List Condition)) → s.owners.given < 2 ^ 32 → Owned s.owners → Owned (bus_takes s conn e rule).state.owners
takes_owned s conn e rule small i = by (unique_of s.owners conn) refl
  where
    hello_by : (b : Bool) → unique_of s.owners conn ≡ None → Owned (if b then greets s conn e else record { state = s; moves = closes conn ∷ [] }).state.owners
    hello_by true none = greets_owned s conn e small none i
    hello_by false none = i

    by : (o : Option (List ℕ)) → unique_of s.owners conn ≡ o → Owned (bus_takes s conn e rule).state.owners
    by (Some own) h =
        let m : Envelope = record e { sender = Some own } in
        rw h (named_owned (is_for_bus m) (e.kind == 1) (is_unowned e.destination (receivers s m)) s conn m rule (calls_after_all s.calls conn m (receivers s m)) i)
    by None h = rw h (hello_by (is_hello e) h)

-- one leaves
gone_here : (o : Owners) (conn : ℕ) → unique_of (after_gone o conn) conn ≡ None
gone_here o conn = get-remove nat_cmp_total o.unique conn conn ∙ by (eq_by_cmp nat_cmp conn conn) ((eq_by_cmp_equiv nat_cmp_total).refl conn)
  where
    by : (b : Bool) → b ≡ true → (if b then None else finmap.get o.unique conn) ≡ None
    by true h = refl
    by false h = absurd (false_true h)

pub gone_owned : (o : Owners) (conn : ℕ) → Owned o → Owned (after_gone o conn)
gone_owned o conn i = record {
  lists = λ k q h. by k q h (conn == k) refl;
  early = early-gone o.given conn o.lists (lists_without conn o.lists) i.early refl;
}
  where
    rest_of_one : ℕ → ℕ → Bool → List (ℕ × ℕ)
    rest_of_one k flags b = if not b then (k, flags) ∷ [] else []

    kept : (k flags : ℕ) → (k ≡ conn → ⊥) → (b : Bool) → (k == conn) ≡ b → rest_of_one k flags b ≡ (k, flags) ∷ []
    kept k flags differ true g = absurd (differ (eqb-true k conn g))
    kept k flags differ false g = refl

    by : (k : ℕ) (q : List ℕ) → unique_of (after_gone o conn) k ≡ Some q → (b : Bool) → (conn == k) ≡ b → IsOwner (after_gone o conn) k q
    by k q h true g = absurd (no_none q (sym (gone_here o conn) ∙ ap (unique_of (after_gone o conn)) (eqb-true conn k g) ∙ h))
    by k q h false g =
        let differ : conn ≡ k → ⊥ = λ same. false_true (sym g ∙ eq-eqb conn k same) in
        let old = i.lists k q (sym (gone_other o conn k differ) ∙ h) in
        record {
          flags = old.flags;
          alone = list_of-lists_without conn o.lists q ∙ ap (without conn) old.alone ∙ kept k old.flags (λ same. differ (sym same)) (k == conn) refl;
          unique = old.unique;
        }

pub one_owned : (c : Carried) (due : List (ℕ × Why)) → Owned c.bus.state.owners → Owned (one_closed c due).bus.state.owners
one_owned c [] i = i
one_owned c (first ∷ rest) i = gone_owned c.bus.state.owners first.0 i

-- WHO IS HANDED what goes to that name: who has it alone
pub owners_are : (s : BusState) (k : ℕ) (name : List ℕ) → Owned s.owners → unique_of s.owners k ≡ Some name → owners_of s name ≡ k ∷ []
owners_are s k name i h = ap (λ l. one_or_none (owner_in l)) (i.lists k name h).alone
