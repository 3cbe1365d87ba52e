-- Those who ask for a message, as the definition of routing has them.
use Rattle.std.proofs.Common.{◌≡◌, ◌≢◌, ℕ, ◌<◌, ◌≤◌, Bool, true, false, cond, ◌&&◌, ◌||◌, T, List, [], ◌∷◌, length, map, get_or, Option, None, Some, refl, sym, ap, ◌∙◌, subst, inl, inr, arith, Decides}
use Rattle.std.specs.Prelude.{Result, Ok, Err, is_ok, ◌==◌}
use Rattle.std.specs.List.{list_any, filter, Contains, HoldsAt}
use Rattle.std.specs.List.Sorted.{IsStrictlySortedBy, IsStrictlyIncreasing, IsBinarySearchResult}
use Rattle.std.specs.Ordering.{nat_cmp, is_eq, eq_by_cmp}
use Rattle.std.specs.declared.cmp.Ordering.{Ordering}
use Rattle.std.specs.declared.cmp.Ordering.TheVariants.{Less, Equal, Greater}
use Rattle.std.specs.Cmp.{nat_cmp_total, eq_by_cmp_equiv}
use Rattle.std.specs.Map.{keys_of}
use Rattle.std.specs.FinMap.{find, is_sorted, nat_cmp-IsAntisymmetric}
use Rattle.std.specs.FinMap.Entries.{same_entries}
use Rattle.std.proofs.lemmas.Bool.Decides.{same_from_decides, Decides-and, Decides-eqb, Decides-by_or, Decides-like, leb_tells}
use Rattle.std.proofs.lemmas.List.Kept.{IsStrictlySortedBy-filter}
use Rattle.std.proofs.lemmas.List.Elements.{Contains-get_or, at_from_Contains}
use Rattle.std.proofs.lemmas.List.Sorted.{searched}
use Rattle.std.proofs.lemmas.Map.Keys.{sorted_from_strictly_increasing, below_from_sorted}
use Rattle.std.proofs.lemmas.Map.Made.{is_member-filter}
use Rattle.std.proofs.lemmas.Map.Views.{Contains-from_any, list_any-from_Contains}
use Rattle.atspi_message.specs.Envelope.{Envelope}
use Rattle.atspi_names.specs.Owners.{Owners, list_of}
use Rattle.atspi_names.specs.Queue.{owner_in}
use Rattle.atspi_names.proofs.Maps.{is_sorted-from}
use Rattle.atspi_match.specs.declared.condition.Condition.{Condition}
use Rattle.atspi_match.specs.Matching.{Matches}
use Rattle.atspi_match.specs.RuleIndex.{Receives, AreReceivers}
use Rattle.atspi_match.specs.routing.BusState.{BusState}
use Rattle.atspi_match.specs.routing.Routing.{asks_for, matches, receivers, one_or_none}
use Rattle.atspi_match.proofs.OfRouting.Deciding.{matching}
use Rattle.atspi_bus_steps.specs.InnerBus.{parts}
use Rattle.atspi_bus_steps.specs.inner.Asking.{has_joined}

equal_of_tie : (r : Ordering) → is_eq r ≡ true → r ≡ Equal
equal_of_tie Less e = cc
equal_of_tie Equal e = refl
equal_of_tie Greater e = cc

tied : (q x : ℕ) → eq_by_cmp nat_cmp q x ≡ true → q ≡ x
tied q x e = nat_cmp-IsAntisymmetric q x (equal_of_tie _ e)

-- numbers as keys, each with a value that says nothing
marked : List ℕ → List (ℕ × ℕ)
marked ks = map (λ k. (k, 0)) ks

keys_marked : (ks : List ℕ) → keys_of (marked ks) ≡ ks
unfolding marked
keys_marked [] = refl
keys_marked (k ∷ ks) = ap (λ (rest : List ℕ). k ∷ rest) (keys_marked ks)

find-marked : (q : ℕ) (ks : List ℕ) → find nat_cmp q (marked ks) ≡ cond (list_any (eq_by_cmp nat_cmp q) ks) (Some 0) None
unfolding marked
find-marked q [] = refl
find-marked q (k ∷ ks) = by (eq_by_cmp nat_cmp q k) (find-marked q ks)
  where
    by : (b : Bool) → find nat_cmp q (marked ks) ≡ cond (list_any (eq_by_cmp nat_cmp q) ks) (Some 0) None
        → cond b (Some 0) (find nat_cmp q (marked ks)) ≡ cond (b || list_any (eq_by_cmp nat_cmp q) ks) (Some 0) None
    by true h = refl
    by false h = h

sorted_marked : (ks : List ℕ) → IsStrictlySortedBy nat_cmp ks → T (is_sorted nat_cmp (marked ks))
sorted_marked ks rises = is_sorted-from nat_cmp (marked ks) (subst (IsStrictlySortedBy nat_cmp) (sym (keys_marked ks)) rises)

-- numbers that rise and are the same are the same list
pub same_rising : (xs ys : List ℕ) → IsStrictlySortedBy nat_cmp xs → IsStrictlySortedBy nat_cmp ys
    → ((q : ℕ) → list_any (eq_by_cmp nat_cmp q) xs ≡ list_any (eq_by_cmp nat_cmp q) ys) → xs ≡ ys
same_rising xs ys rise climb same =
    sym (keys_marked xs)
    ∙ ap keys_of (same_entries nat_cmp nat_cmp_total nat_cmp-IsAntisymmetric (marked xs) (marked ys) (sorted_marked xs rise) (sorted_marked ys climb)
    (λ q. find-marked q xs ∙ ap (λ b. cond b (Some 0) None) (same q) ∙ sym (find-marked q ys)))
    ∙ keys_marked ys

-- the test of the rules decides who receives
module _ (e : Envelope) (owners : Owners) (conn : ℕ) where
  abbrev Fits : ℕ × List Condition → Type 0
  Fits p = (p.0 ≡ conn) × Matches p.1 e owners

  abbrev fits : ℕ × List Condition → Bool
  fits p = p.0 == conn && matches e owners p.1

  each : (p : ℕ × List Condition) → Decides (fits p) (Fits p)
  each p = Decides-and (p.0 == conn) (matches e owners p.1) (Decides-eqb p.0 conn) (matching e owners p.1)

  to : (rules : List (ℕ × List Condition)) → ((k : ℕ) × (k < length rules) × HoldsAt Fits rules k) → Receives rules e owners conn
  to rules h =
      let p = get_or rules h.0 (conn, []) in
      let is = h.2 (conn, []) in
      (p.1, subst (λ c. Contains rules (c, p.1)) is.0 (Contains-get_or rules h.0 (conn, []) h.1), is.1)

  from : (rules : List (ℕ × List Condition)) → Receives rules e owners conn → (k : ℕ) × (k < length rules) × HoldsAt Fits rules k
  from rules r =
      let a = at_from_Contains rules (conn, r.0) r.1 in
      (a.0, a.1, λ d. (ap (λ (p : ℕ × List Condition). p.0) (a.2 d), subst (λ (p : ℕ × List Condition). Matches p.1 e owners) (sym (a.2 d)) r.2))

  pub asking-decides : (rules : List (ℕ × List Condition)) → Decides (list_any fits rules) (Receives rules e owners conn)
  asking-decides rules = Decides-like (list_any fits rules) (to rules) (from rules) (Decides-by_or fits Fits (list_any fits) each refl (λ _ _. refl) rules)

found_decides : (found : List ℕ) (q : ℕ) → Decides (list_any (eq_by_cmp nat_cmp q) found) (Contains found q)
found_decides found q = (Contains-from_any tied q found, list_any-from_Contains (eq_by_cmp_equiv nat_cmp_total) q found)

and_turned : (a b c : Bool) → a ≡ c → (a && b) ≡ (b && c)
and_turned a true c e = by a c e
  where
    by : (a c : Bool) → a ≡ c → (a && true) ≡ c
    by true c e = e
    by false c e = e
and_turned true false c e = refl
and_turned false false c e = refl

-- those that the list of rules found, as far as they have joined, are those who ask
pub asking-is : (joined found : List ℕ) (owners : Owners) (rules : List (ℕ × List Condition)) (e : Envelope) → IsStrictlyIncreasing joined
    → AreReceivers rules e owners found → filter (has_joined joined) found ≡ filter (asks_for (parts joined owners rules) e) joined
asking-is joined found owners rules e rises are =
    let asks = asks_for (parts joined owners rules) e in
    let laws = eq_by_cmp_equiv nat_cmp_total in
    same_rising _ _ (IsStrictlySortedBy-filter nat_cmp (has_joined joined) found (sorted_from_strictly_increasing found are.rising))
    (IsStrictlySortedBy-filter nat_cmp asks joined (sorted_from_strictly_increasing joined rises))
    (λ q. is_member-filter laws (has_joined joined) q (λ x t. ap (has_joined joined) (tied q x t)) found
    ∙ and_turned (list_any (eq_by_cmp nat_cmp q) found) (has_joined joined q) (asks q)
    (same_from_decides (list_any (eq_by_cmp nat_cmp q) found) (asks q)
    (λ t. (are.each q).0 ((found_decides found q).0 t), λ r. (found_decides found q).1 ((are.each q).1 r)) (asking-decides e owners q rules))
    ∙ sym (is_member-filter laws asks q (λ x t. ap asks (tied q x t)) joined))

-- a binary search among those who have joined
rises_along : (xs : List ℕ) → IsStrictlyIncreasing xs → (i j : ℕ) → i ≤ j → j < length xs → get_or xs i 0 ≤ get_or xs j 0
rises_along xs rises i j le lt = by (i == j) refl
  where
    by : (b : Bool) → (i == j) ≡ b → get_or xs i 0 ≤ get_or xs j 0
    by true e = let same = (Decides-eqb i j).0 e in rw same (omega arith)
    by false e =
        let apart : i ≢ j = λ is. absurd (clash (sym e ∙ (Decides-eqb i j).1 is)) in
        let below = below_from_sorted xs i j 0 (sorted_from_strictly_increasing xs rises) (omega arith) lt in omega arith
      where
        clash : false ≡ true → ⊥
        clash x = cc

nowhere : (a i n g x : ℕ) → (a < i → g < x) → (i ≤ a → a < n → x < g) → a < n → g ≡ x → ⊥
nowhere a i n g x before behind lt is =
    elim (leb_tells i a) [
      | inl h ↦ let f = behind h.1 lt in omega arith
      | inr h ↦ let f = before h.1 in omega arith
    ]

pub has-is : (xs : List ℕ) (x : ℕ) (r : Result ℕ ℕ) → IsStrictlyIncreasing xs → IsBinarySearchResult (λ y. nat_cmp y x) xs r → is_ok r ≡ has_joined xs x
has-is xs x (Ok i) rises h =
    let s = searched xs x (Ok i) h (rises_along xs rises) in
    sym ((found_decides xs x).1 (subst (Contains xs) s.1 (Contains-get_or xs i 0 s.0)))
has-is xs x (Err i) rises h = by (has_joined xs x) refl
  where
    none : Contains xs x → ⊥
    none c =
        let s = searched xs x (Err i) h (rises_along xs rises) in
        let a = at_from_Contains xs x c in
        nowhere a.0 i (length xs) (get_or xs a.0 0) x (s.1 a.0) (s.2 a.0) a.1 (a.2 0)

    by : (b : Bool) → has_joined xs x ≡ b → false ≡ b
    by true e = absurd (none ((found_decides xs x).0 e))
    by false e = refl

-- routing reads these parts of a bus's state alone
pub receivers-parts : (s : BusState) (e : Envelope) → receivers (parts s.joined s.owners s.rules) e ≡ receivers s e
receivers-parts s e = by e.destination
  where
    by : (o : Option (List ℕ)) → receivers (parts s.joined s.owners s.rules) (record e { destination = o }) ≡ receivers s (record e { destination = o })
    by None = refl
    by (Some name) = refl

-- by the destination
pub receivers-to : (s : BusState) (e : Envelope) (name : List ℕ) → e.destination ≡ Some name → receivers s e ≡ one_or_none (owner_in (list_of s.owners.lists name))
receivers-to s e name is = ap (λ o. receivers s (record e { destination = o })) is

pub receivers-all : (s : BusState) (e : Envelope) → e.destination ≡ None → (e.kind == 4) ≡ true → receivers s e ≡ filter (asks_for s e) s.joined
receivers-all s e is signal =
    ap (λ o. receivers s (record e { destination = o })) is
    ∙ ap (λ b. cond b (filter (asks_for s (record e { destination = None })) s.joined) []) signal
    ∙ ap (λ o. filter (asks_for s (record e { destination = o })) s.joined) (sym is)

pub receivers-none : (s : BusState) (e : Envelope) → e.destination ≡ None → (e.kind == 4) ≡ false → receivers s e ≡ []
receivers-none s e is other =
    ap (λ o. receivers s (record e { destination = o })) is
    ∙ ap (λ b. cond b (filter (asks_for s (record e { destination = None })) s.joined) []) other
