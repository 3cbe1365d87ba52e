-- The registry's well-known name is its own until it leaves, whatever the bus takes, as long as nobody asks for a name.
use Rattle.std.proofs.Common.{◌≡◌, ◌⊎◌, inl, inr, ℕ, zero, suc, Bool, true, false, List, [], ◌∷◌, ◌++◌, Option, None, Some, refl, sym, ap, ◌∙◌, subst, arith, cond}
use Rattle.std.specs.Prelude.{◌==◌, ◌&&◌, ◌||◌, not, filter, codes, if◌then◌else◌, Result, Ok, Err}
use Rattle.std.specs.List.{AllByRecursion, list_any}
use Rattle.std.specs.FinMap as finmap
use Rattle.std.specs.FinMap.{get-remove}
use Rattle.std.specs.Cmp.{nat_cmp_total, eq_by_cmp_equiv}
use Rattle.std.proofs.lemmas.Bool.{eqb-true}
use Rattle.atspi_types.specs.Data.{Data}
use Rattle.atspi_base.specs.valid_names.Names.{is_unique_name}
use Rattle.atspi_message.specs.Envelope.{Envelope}
use Rattle.atspi_match.specs.declared.condition.Condition.{Condition}
use Rattle.atspi_match.specs.RuleIndex.{is_pair, rules_of, without_first}
use Rattle.atspi_names.specs.Owners.{Owners, list_of, unique_name, after_gone}
use Rattle.atspi_names.proofs.BookLemmas.{list_of-lists_without}
use Rattle.atspi_names.proofs.OwnersLemmas.{list_elsewhere}
use Rattle.atspi_names.specs.Queue.{without, owner_in}
use Rattle.atspi_protocol.specs.ends.Places.{registry}
use Rattle.atspi_match.specs.declared.routing.closing.Why.{Why}
use Rattle.atspi_match.specs.declared.routing.member.BusMember.{BusMember}
use Rattle.atspi_match.specs.declared.routing.member.BusMember.TheVariants.{Hello, RequestName, ReleaseName, NameHasOwner, GetNameOwner, ListNames, ListQueuedOwners, AddMatch, RemoveMatch, GetId, Ping}
use Rattle.atspi_match.specs.routing.BusState.{OpenCall, BusState, unique_of}
use Rattle.atspi_match.specs.routing.Members.{MemberLine, is_text, is_of, first_line, with_arguments, member_lines, member_of}
use Rattle.atspi_match.specs.routing.Answers.{Answer, only, fails, returns, answers, adds_rule, removes_rule}
use Rattle.atspi_match.specs.routing.Routing.{receivers, is_for_bus, owners_of, one_or_none}
use Rattle.atspi_match.specs.routing.Steps.{handed, speaks, called, undeliverable, is_unowned, calls_after_all, is_hello, greets, closes, bus_takes}
use Rattle.atspi_trace.specs.Carrying.{Carried, one_closed, settled}
use Rattle.atspi_trace_laws.proofs.OfOrder.Parties.{no_none, same_some, false_true}
use Rattle.atspi_trace_laws.proofs.OfNames.Naming.{hello_other, gone_less}
use Rattle.atspi_trace_laws.proofs.OfSigned.Unique.{IsIn}

-- the list of the registry's name is the registry alone, or the registry left and nobody has the name
abbrev pub alone : List (ℕ × ℕ)
alone = (0, 4) ∷ []

abbrev pub KeepsName : Owners → Type 0
KeepsName o = (list_of o.lists registry ≡ alone) ⊎ ((list_of o.lists registry ≡ []) × (unique_of o 0 ≡ None))

-- WHICH CALL CHANGES OWNERS of well-known names
abbrev is_naming : BusMember → Bool
is_naming RequestName = true
is_naming ReleaseName = true
is_naming member = false

abbrev pub asks_name : Envelope → Bool
asks_name e = is_text e.member (codes "RequestName") || is_text e.member (codes "ReleaseName")

-- a line that passes
first_passes : (p : MemberLine → Bool) (Q : MemberLine → Type 0) (ls : List MemberLine) (l : MemberLine) → AllByRecursion Q ls → first_line (filter p ls) ≡ Some l → (p l ≡ true) × Q l
first_passes p Q [] l a h = absurd (no_none l h)
first_passes p Q (x ∷ xs) l a h = by (p x) refl h (λ g. first_passes p Q xs l a.1 g)
  where
    by : (b : Bool) → p x ≡ b → first_line (if b then x ∷ filter p xs else filter p xs) ≡ Some l → (first_line (filter p xs) ≡ Some l → (p l ≡ true) × Q l) → (p l ≡ true) × Q l
    by true g k f = let same : x ≡ l = same_some x l k in (ap p (sym same) ∙ g, subst Q same a.0)
    by false g k f = f k

abbrev OfNaming : MemberLine → Type 0
OfNaming l = is_naming l.member ≡ true → (l.name ≡ codes "RequestName") ⊎ (l.name ≡ codes "ReleaseName")

naming_lines : AllByRecursion OfNaming member_lines
naming_lines =
    ((λ h. absurd (false_true h)), ((λ h. inl refl), ((λ h. inr refl), ((λ h. absurd (false_true h)), ((λ h. absurd (false_true h)), ((λ h. absurd (false_true h)), ((λ h. absurd (false_true h)), ((λ h. absurd (false_true h)), ((λ h. absurd (false_true h)), ((λ h. absurd (false_true h)), ((λ h. absurd (false_true h)), tt)))))))))))

and_right : (a b : Bool) → (a && b) ≡ true → b ≡ true
and_right true b h = h
and_right false b h = absurd (false_true h)

or_left : (a b : Bool) → a ≡ true → (a || b) ≡ true
or_left true b h = refl
or_left false b h = absurd (false_true h)

or_right : (a b : Bool) → b ≡ true → (a || b) ≡ true
or_right true b h = refl
or_right false b h = h

named_either : (e : Envelope) (name : List ℕ) → (name ≡ codes "RequestName") ⊎ (name ≡ codes "ReleaseName") → is_text e.member name ≡ true → asks_name e ≡ true
named_either e name (inl same) h = or_left (is_text e.member (codes "RequestName")) (is_text e.member (codes "ReleaseName")) (ap (is_text e.member) (sym same) ∙ h)
named_either e name (inr same) h = or_right (is_text e.member (codes "RequestName")) (is_text e.member (codes "ReleaseName")) (ap (is_text e.member) (sym same) ∙ h)

naming_of : (e : Envelope) (member : BusMember) → member_of e ≡ Ok member → is_naming member ≡ true → asks_name e ≡ true
naming_of e member h r = by (list_any (is_of e.interface) member_lines) h
  where
    ok_or : BusMember → Result BusMember (List ℕ) → BusMember
    ok_or d (Ok m) = m
    ok_or d (Err name) = d

    is_err : Result BusMember (List ℕ) → Bool
    is_err (Ok m) = false
    is_err (Err name) = true

    never : (name : List ℕ) → Err name ≡ Ok member → ⊥
    never name g = false_true (sym (ap is_err g))

    its : (o : Option MemberLine) → first_line (filter (λ l. is_of e.interface l && is_text e.member l.name) member_lines) ≡ o → with_arguments e o ≡ Ok member → asks_name e ≡ true
    its None g k = absurd (never _ k)
    its (Some l) g k = args _ k
      where
        x : ((is_of e.interface l && is_text e.member l.name) ≡ true) × OfNaming l
        x = first_passes (λ (m : MemberLine). is_of e.interface m && is_text e.member m.name) OfNaming member_lines l naming_lines g

        args : (b : Bool) → (if b then Ok l.member else Err (codes "InvalidArgs")) ≡ Ok member → asks_name e ≡ true
        args true q =
            let same : l.member ≡ member = ap (ok_or l.member) q in
            named_either e l.name (x.1 (ap is_naming same ∙ r)) (and_right (is_of e.interface l) (is_text e.member l.name) x.0)
        args false q = absurd (never _ q)

    by : (b : Bool) → (if b then with_arguments e (first_line (filter (λ l. is_of e.interface l && is_text e.member l.name) member_lines)) else Err (codes "UnknownInterface")) ≡ Ok member → asks_name e ≡ true
    by true g = its (first_line (filter (λ l. is_of e.interface l && is_text e.member l.name) member_lines)) refl g
    by false g = absurd (never _ g)

-- THE BUS TAKES A MESSAGE that asks for no name
if_owners : (b : Bool) (x y : Answer) (o : Owners) → x.owners ≡ o → y.owners ≡ o → (if b then x else y).owners ≡ o
if_owners true x y o a c = a
if_owners false x y o a c = c

adds_owners : (s : BusState) (conn : ℕ) (o : Option (List Condition)) → (adds_rule s conn o).owners ≡ s.owners
adds_owners s conn None = refl
adds_owners s conn (Some rule) =
    if_owners (rules_of conn s.rules == 512) (only s (fails (codes "LimitsExceeded"))) (record (only s (returns [])) { rules = s.rules ++ (conn, rule) ∷ [] }) s.owners refl refl

removes_owners : (s : BusState) (conn : ℕ) (o : Option (List Condition)) → (removes_rule s conn o).owners ≡ s.owners
removes_owners s conn None = refl
removes_owners s conn (Some rule) =
    if_owners (list_any (is_pair conn rule) s.rules) (record (only s (returns [])) { rules = without_first s.rules conn rule }) (only s (fails (codes "MatchRuleNotFound"))) s.owners refl refl

answers_owners : (member : BusMember) (s : BusState) (conn : ℕ) (args : List Data) (rule : Option (List Condition)) → (is_naming member ≡ true → ⊥) → (answers member s conn args rule).owners ≡ s.owners
answers_owners Hello s conn args rule f = refl
answers_owners RequestName s conn args rule f = absurd (f refl)
answers_owners ReleaseName s conn args rule f = absurd (f refl)
answers_owners NameHasOwner s conn args rule f = refl
answers_owners GetNameOwner s conn args rule f = refl
answers_owners ListNames s conn args rule f = refl
answers_owners ListQueuedOwners s conn args rule f = refl
answers_owners AddMatch s conn args rule f = adds_owners s conn rule
answers_owners RemoveMatch s conn args rule f = removes_owners s conn rule
answers_owners GetId s conn args rule f = refl
answers_owners Ping s conn args rule f = refl

called_owners : (s : BusState) (conn : ℕ) (e : Envelope) (rule : Option (List Condition)) → (asks_name e ≡ true → ⊥) → (called s conn e rule).state.owners ≡ s.owners
called_owners s conn e rule f = by (member_of e) refl
  where
    by : (r : Result BusMember (List ℕ)) → member_of e ≡ r → (called s conn e rule).state.owners ≡ s.owners
    by (Ok member) h = rw h (answers_owners member s conn e.body rule (λ r. f (naming_of e member h r)))
    by (Err name) h = rw h refl

named_owners : (a b c : Bool) (s : BusState) (conn : ℕ) (e : Envelope) (rule : Option (List Condition)) (calls : List OpenCall) → (a ≡ true → b ≡ true → asks_name e ≡ true → ⊥)
    → (if a then (if b then called s conn e rule else speaks s []) else (if c then undeliverable s conn e else record { state = record s { calls = calls }; moves = handed s e })).state.owners ≡ s.owners
named_owners true true c s conn e rule calls f = called_owners s conn e rule (f refl refl)
named_owners true false c s conn e rule calls f = refl
named_owners false b true s conn e rule calls f = refl
named_owners false b false s conn e rule calls f = refl

-- of one that has its name, no owner changes
pub takes_owners : (s : BusState) (conn : ℕ) (e : Envelope) (rule : Option (List Condition)) (own : List ℕ) → unique_of s.owners conn ≡ Some own → (is_for_bus e ≡ true → e.kind ≡ 1 → asks_name e ≡ true → ⊥)
    → (bus_takes s conn e rule).state.owners ≡ s.owners
takes_owners s conn e rule own h f =
    let m : Envelope = record e { sender = Some own } in
    rw h (named_owners (is_for_bus m) (e.kind == 1) (is_unowned e.destination (receivers s m)) s conn m rule (calls_after_all s.calls conn m (receivers s m)) (λ for one. f (same e.destination for) (eqb-true e.kind 1 one)))
  where
    same : (d : Option (List ℕ)) → is_for_bus (record e { sender = Some own; destination = d }) ≡ true → is_for_bus (record e { destination = d }) ≡ true
    same None g = g
    same (Some name) g = g

-- a Hello of another connection
no_registry_name : (n : ℕ) → registry ≡ unique_name n → ⊥
no_registry_name n h = false_true (ap is_unique_name h)

greets_keep : (s : BusState) (conn : ℕ) (e : Envelope) → (0 ≡ conn → ⊥) → KeepsName s.owners → KeepsName (greets s conn e).state.owners
greets_keep s conn e other i = by i
  where
    same : list_of (greets s conn e).state.owners.lists registry ≡ list_of s.owners.lists registry
    same = list_elsewhere s.owners.lists (unique_name s.owners.given) ((conn, 0) ∷ []) registry (no_registry_name s.owners.given)

    by : KeepsName s.owners → KeepsName (greets s conn e).state.owners
    by (inl h) = inl (same ∙ h)
    by (inr h) = inr (same ∙ h.0, hello_other s conn 0 e other ∙ h.1)

pub takes_keep : (s : BusState) (conn : ℕ) (e : Envelope) (rule : Option (List Condition)) → (is_for_bus e ≡ true → e.kind ≡ 1 → asks_name e ≡ true → ⊥) → (unique_of s.owners conn ≡ None → 0 ≡ conn → ⊥) → KeepsName s.owners → KeepsName (bus_takes s conn e rule).state.owners
takes_keep s conn e rule none_asked first i = by (unique_of s.owners conn) refl
  where
    hello_by : (b : Bool) → (0 ≡ conn → ⊥) → KeepsName (if b then greets s conn e else record { state = s; moves = closes conn ∷ [] }).state.owners
    hello_by true other = greets_keep s conn e other i
    hello_by false other = i

    by : (o : Option (List ℕ)) → unique_of s.owners conn ≡ o → KeepsName (bus_takes s conn e rule).state.owners
    by (Some own) h = subst KeepsName (sym (takes_owners s conn e rule own h none_asked)) i
    by None h = rw h (hello_by (is_hello e) (first h))

-- A CONNECTION LEAVES
gone_here : (o : Owners) (conn : ℕ) → unique_of (after_gone o conn) conn ≡ None
gone_here o conn = get-remove nat_cmp_total o.unique conn conn ∙ ap (λ b. cond b None (finmap.get o.unique conn)) ((eq_by_cmp_equiv nat_cmp_total).refl conn)

other_alone : (k : ℕ) → without (suc k) alone ≡ alone
other_alone k = by (0 == suc k) refl
  where
    by : (b : Bool) → (0 == suc k) ≡ b → without (suc k) alone ≡ alone
    by true g = let same : 0 ≡ suc k = eqb-true 0 (suc k) g in absurd (omega (arith, same))
    by false g = ap (λ b. if not b then alone else []) g

pub gone_keeps : (o : Owners) (conn : ℕ) → KeepsName o → KeepsName (after_gone o conn)
gone_keeps o conn i = by conn i
  where
    lists : (k : ℕ) → list_of (after_gone o k).lists registry ≡ without k (list_of o.lists registry)
    lists k = list_of-lists_without k o.lists registry

    by : (k : ℕ) → KeepsName o → KeepsName (after_gone o k)
    by k (inr h) = inr (lists k ∙ ap (without k) h.0, gone_less o k 0 h.1)
    by zero (inl h) = inr (lists zero ∙ ap (without zero) h, gone_here o zero)
    by (suc k) (inl h) = inl (lists (suc k) ∙ ap (without (suc k)) h ∙ other_alone k)

one_keeps : (c : Carried) (due : List (ℕ × Why)) → KeepsName c.bus.state.owners → KeepsName (one_closed c due).bus.state.owners
one_keeps c [] i = i
one_keeps c (first ∷ rest) i = gone_keeps c.bus.state.owners first.0 i

pub settled_keep : (rounds : ℕ) (c : Carried) → KeepsName c.bus.state.owners → KeepsName (settled rounds c).bus.state.owners
settled_keep zero c i = i
settled_keep (suc rounds) c i = settled_keep rounds (one_closed c c.bus.waiting.due) (one_keeps c c.bus.waiting.due i)

-- WHO IS HANDED A MESSAGE TO THE REGISTRY'S NAME: the registry alone
pub goes_first : (s : BusState) (c : ℕ) → KeepsName s.owners → IsIn c (owners_of s registry) → c ≡ 0
goes_first s c (inl h) i = only (subst (λ l. IsIn c (one_or_none (owner_in l))) h i)
  where
    only : IsIn c (0 ∷ []) → c ≡ 0
    only (inl same) = same
    only (inr none) = absurd none
goes_first s c (inr h) i = absurd (subst (λ l. IsIn c (one_or_none (owner_in l))) h.0 i)
