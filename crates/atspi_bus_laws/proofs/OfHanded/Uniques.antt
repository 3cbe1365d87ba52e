-- What the bus does to unique names: a step changes none, or who said Hello gets the next.
use Rattle.std.proofs.Common.{◌≡◌, ◌≢◌, ◌⊎◌, inl, inr, ℕ, ◌<◌, ◌≤◌, ◌^◌, Bool, true, false, cond, List, [], ◌∷◌, ◌++◌, Option, None, Some, refl, sym, ap, ◌∙◌, subst, arith}
use Rattle.std.specs.Prelude.{◌==◌, codes, if◌then◌else◌, Result, Ok, Err}
use Rattle.std.specs.List.{list_any}
use Rattle.std.specs.FinMap as finmap
use Rattle.std.specs.FinMap.{get-remove, get-insert}
use Rattle.std.specs.Ordering.{nat_cmp, eq_by_cmp}
use Rattle.std.specs.Cmp.{nat_cmp_total, eq_by_cmp_equiv}
use Rattle.std.proofs.lemmas.Option.{same_Some}
use Rattle.atspi_types.specs.Data.{Data}
use Rattle.atspi_tree_model.specs.Forest.{first_of}
use Rattle.atspi_message.specs.Envelope.{Envelope}
use Rattle.atspi_match.specs.declared.condition.Condition.{Condition}
use Rattle.atspi_match.specs.RuleIndex.{is_pair, rules_of, without_first}
use Rattle.atspi_names.specs.Owners.{Owners, unique_name, after_hello, after_gone}
use Rattle.atspi_names.proofs.BookLemmas.{same_conn, by_test}
use Rattle.atspi_names.proofs.UniqueLemmas.{unique_name-injective}
use Rattle.atspi_match.specs.declared.routing.member.BusMember.{BusMember}
use Rattle.atspi_match.specs.declared.routing.member.BusMember.TheVariants.{Hello, RequestName, ReleaseName, NameHasOwner, GetNameOwner, ListNames, ListQueuedOwners, AddMatch, RemoveMatch, GetId, Ping}
use Rattle.atspi_match.specs.routing.BusState.{BusState, unique_of}
use Rattle.atspi_match.specs.routing.Members.{member_of}
use Rattle.atspi_match.specs.routing.Answers.{Answer, only, fails, returns, answers, may_be_asked_for, first_text, second_number, requests, releases, adds_rule, removes_rule}
use Rattle.atspi_match.specs.routing.Routing.{receivers, is_for_bus}
use Rattle.atspi_match.specs.routing.Steps.{closes, BusStep, handed, speaks, answered, called, undeliverable, is_unowned, calls_after_all, passes_on, takes_from_named, is_hello, greets, bus_takes}
use Rattle.atspi_trace.specs.World.{End}

-- WHAT A STEP DOES TO UNIQUE NAMES: nothing, or who said Hello gets the next

abbrev pub SameAs : Owners → Owners → Type 0
SameAs o p = (p.unique ≡ o.unique) × (p.given ≡ o.given)

abbrev pub Goes : ℕ → Owners → Owners → Type 0
Goes conn o p = SameAs o p ⊎ ((unique_of o conn ≡ None) × SameAs (after_hello o conn) p)

same_either : (b : Bool) (x y : Answer) (o : Owners) → SameAs o x.owners → SameAs o y.owners → SameAs o (if b then x else y).owners
same_either true x y o f g = f
same_either false x y o f g = g

adds_same : (s : BusState) (conn : ℕ) (rule : Option (List Condition)) → SameAs s.owners (adds_rule s conn rule).owners
adds_same s conn None = (refl, refl)
adds_same s conn (Some rule) =
    same_either (rules_of conn s.rules == 512) (only s (fails (codes "LimitsExceeded"))) (record (only s (returns [])) { rules = s.rules ++ (conn, rule) ∷ [] }) s.owners (refl, refl) (refl, refl)

removes_same : (s : BusState) (conn : ℕ) (rule : Option (List Condition)) → SameAs s.owners (removes_rule s conn rule).owners
removes_same s conn None = (refl, refl)
removes_same s conn (Some rule) =
    same_either (list_any (is_pair conn rule) s.rules) (record (only s (returns [])) { rules = without_first s.rules conn rule }) (only s (fails (codes "MatchRuleNotFound"))) s.owners (refl, refl) (refl, refl)

answers_same : (member : BusMember) (s : BusState) (conn : ℕ) (args : List Data) (rule : Option (List Condition)) → SameAs s.owners (answers member s conn args rule).owners
answers_same Hello s conn args rule = (refl, refl)
answers_same RequestName s conn args rule =
    same_either (may_be_asked_for (first_text args)) (requests s conn (first_text args) (second_number args)) (only s (fails (codes "InvalidArgs"))) s.owners (refl, refl) (refl, refl)
answers_same ReleaseName s conn args rule =
    same_either (may_be_asked_for (first_text args)) (releases s conn (first_text args)) (only s (fails (codes "InvalidArgs"))) s.owners (refl, refl) (refl, refl)
answers_same NameHasOwner s conn args rule = (refl, refl)
answers_same GetNameOwner s conn args rule = (refl, refl)
answers_same ListNames s conn args rule = (refl, refl)
answers_same ListQueuedOwners s conn args rule = (refl, refl)
answers_same AddMatch s conn args rule = adds_same s conn rule
answers_same RemoveMatch s conn args rule = removes_same s conn rule
answers_same GetId s conn args rule = (refl, refl)
answers_same Ping s conn args rule = (refl, refl)

abbrev called_by : BusState → ℕ → Envelope → Option (List Condition) → Result BusMember (List ℕ) → BusStep
called_by s conn e rule (Ok member) = answered s conn e (answers member s conn e.body rule)
called_by s conn e rule (Err name) = answered s conn e (only s (fails name))

called_same : (s : BusState) (conn : ℕ) (e : Envelope) (rule : Option (List Condition)) → SameAs s.owners (called s conn e rule).state.owners
called_same s conn e rule = by (member_of e)
  where
    by : (r : Result BusMember (List ℕ)) → SameAs s.owners (called_by s conn e rule r).state.owners
    by (Ok member) = answers_same member s conn e.body rule
    by (Err name) = (refl, refl)

passes_same : (s : BusState) (conn : ℕ) (e : Envelope) → SameAs s.owners (passes_on s conn e).state.owners
passes_same s conn e = by (is_unowned e.destination (receivers s e))
  where
    by : (b : Bool) → SameAs s.owners (if b then undeliverable s conn e else record { state = record s { calls = calls_after_all s.calls conn e (receivers s e) }; moves = handed s e }).state.owners
    by true = (refl, refl)
    by false = (refl, refl)

named_same : (s : BusState) (conn : ℕ) (e : Envelope) (rule : Option (List Condition)) → SameAs s.owners (takes_from_named s conn e rule).state.owners
named_same s conn e rule = by (is_for_bus e) (e.kind == 1)
  where
    by : (b c : Bool) → SameAs s.owners (if b then (if c then called s conn e rule else speaks s []) else passes_on s conn e).state.owners
    by true true = called_same s conn e rule
    by true false = (refl, refl)
    by false c = passes_same s conn e

abbrev taken_by : BusState → ℕ → Envelope → Option (List Condition) → Option (List ℕ) → BusStep
taken_by s conn e rule (Some name) = takes_from_named s conn (record e { sender = Some name }) rule
taken_by s conn e rule None = if is_hello e then greets s conn e else record { state = s; moves = closes conn ∷ [] }

first_goes : (s : BusState) (conn : ℕ) (e : Envelope) → unique_of s.owners conn ≡ None → Goes conn s.owners (if is_hello e then greets s conn e else record { state = s; moves = closes conn ∷ [] }).state.owners
first_goes s conn e none = by (is_hello e)
  where
    by : (b : Bool) → Goes conn s.owners (if b then greets s conn e else record { state = s; moves = closes conn ∷ [] }).state.owners
    by true = inr (none, (refl, refl))
    by false = inl (refl, refl)

pub takes_goes : (s : BusState) (conn : ℕ) (e : Envelope) (rule : Option (List Condition)) → Goes conn s.owners (bus_takes s conn e rule).state.owners
takes_goes s conn e rule = by (unique_of s.owners conn) refl
  where
    by : (o : Option (List ℕ)) → unique_of s.owners conn ≡ o → Goes conn s.owners (taken_by s conn e rule o).state.owners
    by (Some name) h = inl (named_same s conn (record e { sender = Some name }) rule)
    by None h = first_goes s conn e h

-- what a Hello and a leaving do to one name
ties : (conn : ℕ) → eq_by_cmp nat_cmp conn conn ≡ true
ties conn = (eq_by_cmp_equiv nat_cmp_total).refl conn

pub hello_here : (o : Owners) (conn : ℕ) → unique_of (after_hello o conn) conn ≡ Some (unique_name o.given)
hello_here o conn = get-insert nat_cmp_total o.unique conn (unique_name o.given) conn ∙ ap (λ b. cond b (Some (unique_name o.given)) (finmap.get o.unique conn)) (ties conn)

pub ties_not : (k conn : ℕ) → k ≢ conn → eq_by_cmp nat_cmp k conn ≡ false
ties_not k conn ne = by_test (eq_by_cmp nat_cmp k conn) (eq_by_cmp nat_cmp k conn ≡ false) (λ h. absurd (ne (sym (same_conn k conn h)))) (λ h. h)

pub hello_other : (o : Owners) (conn k : ℕ) → k ≢ conn → unique_of (after_hello o conn) k ≡ unique_of o k
hello_other o conn k ne = get-insert nat_cmp_total o.unique conn (unique_name o.given) k ∙ ap (λ b. cond b (Some (unique_name o.given)) (finmap.get o.unique k)) (ties_not k conn ne)

pub gone_here : (o : Owners) (conn : ℕ) → unique_of (after_gone o conn) conn ≡ None
gone_here o conn = get-remove nat_cmp_total o.unique conn conn ∙ ap (λ b. cond b None (finmap.get o.unique conn)) (ties conn)

pub gone_none : (o : Owners) (conn k : ℕ) → unique_of o k ≡ None → unique_of (after_gone o conn) k ≡ None
gone_none o conn k none = get-remove nat_cmp_total o.unique conn k ∙ by (eq_by_cmp nat_cmp k conn)
  where
    by : (b : Bool) → cond b None (finmap.get o.unique k) ≡ None
    by true = refl
    by false = none

pub gone_other : (o : Owners) (conn k : ℕ) → k ≢ conn → unique_of (after_gone o conn) k ≡ unique_of o k
gone_other o conn k ne = get-remove nat_cmp_total o.unique conn k ∙ ap (λ b. cond b None (finmap.get o.unique k)) (ties_not k conn ne)

pub none_some : {A : Type 0} (x : A) → None ≡ Some x → ⊥
none_some x h = cc

first_same : (o : Option (List ℕ)) → first_of o o ≡ o
first_same None = refl
first_same (Some name) = refl

abbrev pub Given : ℕ → Option (List ℕ) → Type 0
Given count u = (name : List ℕ) → u ≡ Some name → (n : ℕ) × (n < count) × (name ≡ unique_name n)

pub more_given : (a b : ℕ) (u : Option (List ℕ)) → a ≤ b → Given a u → Given b u
more_given a b u le g name h = let was = g name h in (was.0, omega (arith, was.1, le), was.2)

-- what the bus knows of a connection then, by whether it was greeted
pub here_now : (o p : Owners) (conn : ℕ) (x : End) → Goes conn o p → x.unique ≡ unique_of o conn → (first_of x.unique (unique_of p conn) ≡ unique_of p conn) × ((o.given ≤ p.given) × (Given o.given x.unique → Given p.given (unique_of p conn)))
here_now o p conn x (inl same) known =
    let now : unique_of p conn ≡ unique_of o conn = ap (λ m. finmap.get m conn) same.0 in
    let le : o.given ≤ p.given = omega (arith, same.1) in
    (ap (λ u. first_of u (unique_of p conn)) (known ∙ sym now) ∙ first_same (unique_of p conn), (le, λ g. subst (Given p.given) (known ∙ sym now) (more_given o.given p.given x.unique le g)))
here_now o p conn x (inr (none, same)) known =
    let now : unique_of p conn ≡ Some (unique_name o.given) = ap (λ m. finmap.get m conn) same.0 ∙ hello_here o conn in
    let le : o.given ≤ p.given = omega (arith, same.1) in
    let less : o.given < p.given = omega (arith, same.1) in
    (ap (λ u. first_of u (unique_of p conn)) (known ∙ none), (le, λ g name h. (o.given, less, same_Some name (unique_name o.given) (sym h ∙ now))))

pub there_now : (o p : Owners) (conn k : ℕ) → Goes conn o p → k ≢ conn → unique_of p k ≡ unique_of o k
there_now o p conn k (inl same) ne = ap (λ m. finmap.get m k) same.0
there_now o p conn k (inr (none, same)) ne = ap (λ m. finmap.get m k) same.0 ∙ hello_other o conn k ne

-- a name that was given now is no other's
pub apart : (o p : Owners) (conn : ℕ) (x : End) (name : List ℕ) → Goes conn o p → x.unique ≡ unique_of o conn → o.given < 2 ^ 32 → unique_of p conn ≡ Some name → (u : Option (List ℕ)) → Given o.given u → u ≡ Some name → x.unique ≡ Some name
apart o p conn x name (inl same) known small h u g is = known ∙ sym (ap (λ m. finmap.get m conn) same.0) ∙ h
apart o p conn x name (inr (none, same)) known small h u g is =
    let now : unique_of p conn ≡ Some (unique_name o.given) = ap (λ m. finmap.get m conn) same.0 ∙ hello_here o conn in
    let was = g name is in
    let equal : unique_name o.given ≡ unique_name was.0 = same_Some (unique_name o.given) name (sym now ∙ h) ∙ was.2 in
    let n : o.given ≡ was.0 = unique_name-injective o.given was.0 small (omega (arith, was.1, small)) equal in
    absurd (omega (arith, n, was.1))
