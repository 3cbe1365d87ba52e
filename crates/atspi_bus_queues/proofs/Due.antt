-- Lists of those that are to be closed.
use Rattle.std.proofs.Common.{◌≡◌, ◌≢◌, ◌==◌, not, ℕ, Bool, true, false, cond, ◌||◌, List, [], ◌∷◌, ◌++◌, Option, None, Some, refl, sym, ap, ◌∙◌, subst, inl, inr, arith}
use Rattle.std.specs.Prelude.{filter, IsSome, slice_index_or, option_to_list}
use Rattle.std.specs.Ordering.{nat_cmp}
use Rattle.std.specs.BTreeSet as set
use Rattle.std.specs.BTreeSet.{BTreeSet}
use Rattle.std.specs.BTreeMap.{is_at}
use Rattle.std.proofs.lemmas.Bool.{cases_eq}
use Rattle.std.proofs.lemmas.Bool.Decides.{nat_tests}
use Rattle.atspi_match.specs.declared.routing.closing.Why.{Why}
use Rattle.atspi_match.specs.routing.Queues.{is_due}
use Rattle.atspi_bus_queues.specs.Once.{AreOnce}
use Rattle.atspi_bus_queues.specs.DueList.{IsDueList}
use Rattle.atspi_bus_queues.proofs.Keys.{ties, ties_not}

abbrev pub Due : Type 0
Due = List (ℕ × Why)

abbrev pub others : ℕ → Due → Due
others conn due = filter (λ (d : ℕ × Why). not (d.0 == conn)) due

or_false : (b : Bool) → (b || false) ≡ b
or_false true = refl
or_false false = refl

eq_same : (k : ℕ) → (k == k) ≡ true
eq_same k = grind (arith, nat_tests)

eq_not : (a b : ℕ) → a ≢ b → (a == b) ≡ false
eq_not a b ne = grind (arith, nat_tests)

-- one that is added
pub due-push : (q conn : ℕ) (why : Why) (due : Due) → is_due q (due ++ (conn, why) ∷ []) ≡ (is_due q due || (conn == q))
due-push q conn why [] = or_false (conn == q)
due-push q conn why (d ∷ due) = ap (λ b. (d.0 == q) || b) (due-push q conn why due) ∙ assoc (d.0 == q) (is_due q due) (conn == q)
  where
    assoc : (a b c : Bool) → (a || (b || c)) ≡ ((a || b) || c)
    assoc true b c = refl
    assoc false b c = refl

pub once-push : (conn : ℕ) (why : Why) (due : Due) → is_due conn due ≡ false → AreOnce due → AreOnce (due ++ (conn, why) ∷ [])
once-push conn why [] none h = (refl, tt)
once-push conn why (d ∷ due) none h = (
  due-push d.0 conn why due ∙ ap (λ b. b || (conn == d.0)) h.0 ∙ eq_not conn d.0 (λ e. no (ap (λ (k : ℕ). k == conn) (sym e) ∙ eq_same conn) (first (d.0 == conn) (is_due conn due) none)),
  once-push conn why due (rest (d.0 == conn) (is_due conn due) none) h.1,
)
  where
    first : (a b : Bool) → (a || b) ≡ false → a ≡ false
    first true b e = absurd cc
    first false b e = refl

    rest : (a b : Bool) → (a || b) ≡ false → b ≡ false
    rest true b e = absurd cc
    rest false b e = e

    no : {b : Bool} → b ≡ true → b ≡ false → ⊥
    no e f = cc

test_same : (a b : ℕ) → (a == b) ≡ true → a ≡ b
test_same a b e = grind (arith, nat_tests)

clash : {b : Bool} → b ≡ true → b ≡ false → ⊥
clash e f = cc

second : (a b : Bool) → (a || b) ≡ false → b ≡ false
second true b e = absurd cc
second false b e = e

front_of_or : (a b : Bool) → (a || b) ≡ false → a ≡ false
front_of_or true b e = absurd cc
front_of_or false b e = refl

-- those but one
pub due-others : (q conn : ℕ) (due : Due) → q ≢ conn → is_due q (others conn due) ≡ is_due q due
due-others q conn [] ne = refl
due-others q conn (d ∷ due) ne = by (d.0 == conn) refl (due-others q conn due ne)
  where
    by : (b : Bool) → (d.0 == conn) ≡ b → is_due q (others conn due) ≡ is_due q due → is_due q (cond (not b) (d ∷ others conn due) (others conn due)) ≡ ((d.0 == q) || is_due q due)
    by true e rest = rest ∙ sym (ap (λ b. b || is_due q due) (eq_not d.0 q (λ is. ne (sym is ∙ test_same d.0 conn e))))
    by false e rest = ap (λ b. (d.0 == q) || b) rest

pub not_due : (conn : ℕ) (due : Due) → is_due conn (others conn due) ≡ false
not_due conn [] = refl
not_due conn (d ∷ due) = by (d.0 == conn) refl (not_due conn due)
  where
    by : (b : Bool) → (d.0 == conn) ≡ b → is_due conn (others conn due) ≡ false → is_due conn (cond (not b) (d ∷ others conn due) (others conn due)) ≡ false
    by true e rest = rest
    by false e rest = ap (λ b. b || is_due conn (others conn due)) e ∙ rest

pub once-others : (conn : ℕ) (due : Due) → AreOnce due → AreOnce (others conn due)
once-others conn [] h = tt
once-others conn (d ∷ due) h = by (d.0 == conn) refl (once-others conn due h.1)
  where
    by : (b : Bool) → (d.0 == conn) ≡ b → AreOnce (others conn due) → AreOnce (cond (not b) (d ∷ others conn due) (others conn due))
    by true e rest = rest
    by false e rest = (due-others d.0 conn due (λ is. clash (ap (λ (k : ℕ). k == conn) is ∙ eq_same conn) e) ∙ h.0, rest)

pub others-none : (conn : ℕ) (due : Due) → is_due conn due ≡ false → others conn due ≡ due
others-none conn [] h = refl
others-none conn (d ∷ due) h =
    ap (λ b. cond (not b) (d ∷ others conn due) (others conn due)) (front_of_or (d.0 == conn) (is_due conn due) h)
    ∙ ap (λ (l : Due). d ∷ l) (others-none conn due (second (d.0 == conn) (is_due conn due) h))

pub others-first : (conn : ℕ) (d : ℕ × Why) (due : Due) → AreOnce (d ∷ due) → d.0 ≡ conn → others conn (d ∷ due) ≡ due
others-first conn d due h is =
    ap (λ b. cond (not b) (d ∷ others conn due) (others conn due)) (ap (λ (k : ℕ). k == conn) is ∙ eq_same conn)
    ∙ others-none conn due (ap (λ k. is_due k due) (sym is) ∙ h.0)

-- the list and its set
pub list-new : (conns : BTreeSet ℕ) → conns.keys ≡ [] → IsDueList [] conns
list-new conns none = record { mirrored = λ q. ap (λ ks. set.contains nat_cmp (record conns { keys = ks }) q) none; once = tt }

pub list-push : (due : Due) (conns after : BTreeSet ℕ) (conn : ℕ) (why : Why) → IsDueList due conns → is_due conn due ≡ false
    → ((q : ℕ) → set.contains nat_cmp after q ≡ cond (is_at (nat_cmp conn) q) true (set.contains nat_cmp conns q)) → IsDueList (due ++ (conn, why) ∷ []) after
list-push due conns after conn why h none updates = record {
  mirrored = λ q. updates q ∙ ap (cond (is_at (nat_cmp conn) q) true) (h.mirrored q) ∙ elim (cases_eq conn q) [
    | inl is ↦ ap (λ b. cond b true (is_due q due)) (ap (λ k. is_at (nat_cmp k) q) is ∙ ties q) ∙ sym (due-push q conn why due ∙ ap (λ b. is_due q due || b) (ap (λ (k : ℕ). k == q) is ∙ eq_same q) ∙ or_true (is_due q due))
    | inr ne ↦ ap (λ b. cond b true (is_due q due)) (ties_not conn q ne) ∙ sym (due-push q conn why due ∙ ap (λ b. is_due q due || b) (eq_not conn q ne) ∙ or_false (is_due q due))
  ];
  once = once-push conn why due none h.once;
}
  where
    or_true : (b : Bool) → (b || true) ≡ true
    or_true true = refl
    or_true false = refl

pub list-others : (due : Due) (conns after : BTreeSet ℕ) (conn : ℕ) → IsDueList due conns
    → ((q : ℕ) → set.contains nat_cmp after q ≡ cond (is_at (nat_cmp conn) q) false (set.contains nat_cmp conns q)) → IsDueList (others conn due) after
list-others due conns after conn h updates = record {
  mirrored = λ q. updates q ∙ ap (cond (is_at (nat_cmp conn) q) false) (h.mirrored q) ∙ elim (cases_eq conn q) [
    | inl is ↦ ap (λ b. cond b false (is_due q due)) (ap (λ k. is_at (nat_cmp k) q) is ∙ ties q) ∙ sym (ap (λ k. is_due q (others k due)) is ∙ not_due q due)
    | inr ne ↦ ap (λ b. cond b false (is_due q due)) (ties_not conn q ne) ∙ sym (due-others q conn due (λ e. ne (sym e)))
  ];
  once = once-others conn due h.once;
}

-- the front of a list that is popped
pub popped-first : (due rest : Due) (popped : Option (ℕ × Why)) (first : ℕ × Why) (conn : ℕ) → AreOnce due
    → due ≡ option_to_list popped ++ rest → IsSome popped → first ≡ slice_index_or due 0 first → first.0 ≡ conn → rest ≡ others conn due
popped-first due rest None first conn h split some front is = absurd cc
popped-first due rest (Some d) first conn h split some front is =
    let same : first ≡ d = front ∙ ap (λ l. slice_index_or l 0 first) split in
    sym (ap (others conn) split ∙ others-first conn d rest (subst AreOnce split h) (ap (λ (x : ℕ × Why). x.0) (sym same) ∙ is))
