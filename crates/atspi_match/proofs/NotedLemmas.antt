-- Notes of which rule stands in which group, set and forgotten.
use Rattle.std.proofs.Common.{◌≡◌, ◌≢◌, ◌<◌, ℕ, suc, Bool, true, false, cond, ◌&&◌, ◌||◌, List, [], ◌∷◌, ◌++◌, Option, None, Some, refl, sym, ap, ◌∙◌, subst, ⊎_elim, arith}
use Rattle.std.specs.Prelude.{Result, Ok, Err, OnOk, OnErr}
use Rattle.std.specs.List.{Contains, list_any}
use Rattle.std.specs.Ordering.{nat_cmp, is_eq}
use Rattle.std.specs.BTreeMap.{is_at}
use Rattle.std.proofs.lemmas.Bool.{false≢true}
use Rattle.std.proofs.lemmas.Bool.Decides.{nat_tests}
use Rattle.std.proofs.lemmas.List.Elements.{Contains-append_right}
use Rattle.atspi_match.specs.declared.condition.Condition.{Condition}
use Rattle.atspi_match.specs.declared.rule_groups.RuleGroups.{RuleGroups}
use Rattle.atspi_match.specs.Groups.{IsAsked, IsOwn}
use Rattle.atspi_match.specs.Noted.{Sets, notes, is_pair, SetsNote, SameNotes}
use Rattle.atspi_match.specs.RuleGroups.{IsNoted, Stays}
use Rattle.atspi_match.proofs.NarrowLemmas.{number_of, asked-none, asked-cases}

is_same : (p n : ℕ) → is_eq (nat_cmp p n) ≡ true → p ≡ n
is_same p n e = grind (arith, nat_tests)

is_apart : (p n : ℕ) → n ≢ p → is_eq (nat_cmp p n) ≡ false
is_apart p n ne = grind (arith, nat_tests)

at_self : (n : ℕ) → is_eq (nat_cmp n n) ≡ true
at_self n = grind (arith, nat_tests)

-- what is noted of the two
set_here : (old new : Sets) (t n : ℕ) (b : Bool) → SetsNote old new t n b → notes new t n ≡ b
set_here old new t n b s = s t n ∙ (rw (at_self t, at_self n) refl)

-- a note that is set keeps the others
set_keeps : (old new : Sets) (t n : ℕ) → SetsNote old new t n true → (q m : ℕ) → notes old q m ≡ true → notes new q m ≡ true
set_keeps old new t n s q m h = s q m ∙ at (is_pair t n q m)
  where
    at : (b : Bool) → cond b true (notes old q m) ≡ true
    at true = refl
    at false = h

-- and says nothing of other places
set_others : (old new : Sets) (t n : ℕ) (b : Bool) → SetsNote old new t n b → (q m : ℕ) → m ≢ n → notes new q m ≡ notes old q m
set_others old new t n b s q m ne = s q m ∙ (rw (is_apart n m ne) (at (is_at (nat_cmp t) q)))
  where
    at : (d : Bool) → cond (d && false) b (notes old q m) ≡ notes old q m
    at true = refl
    at false = refl

-- a note that is forgotten stays so where another goes too
set_gone : (old new : Sets) (t n : ℕ) → SetsNote old new t n false → (q m : ℕ) → notes old q m ≡ false → notes new q m ≡ false
set_gone old new t n s q m h = s q m ∙ at (is_pair t n q m)
  where
    at : (b : Bool) → cond b false (notes old q m) ≡ false
    at true = refl
    at false = h

-- what was set since nothing changed
pub set_since : (old mid new : Sets) (t n : ℕ) (b : Bool) → SameNotes old mid → SetsNote mid new t n b → SetsNote old new t n b
set_since old mid new t n b same s q m = s q m ∙ ap (λ v. cond (is_pair t n q m) b v) (same q m)

-- a rule that was noted in one of its groups
pub noted_here : (old new : RuleGroups) (g : ℕ) (rule : List Condition) (place : ℕ) → IsOwn rule g → SetsNote old.sets new.sets g place true → IsNoted new rule place
noted_here old new g rule place own s = record { group = g; own = own; noted = set_here old.sets new.sets g place true s }

pub noted_stays : {X E : Type 0} (r : Result X E) (old mid new : RuleGroups) (g place : ℕ) → SameNotes old.sets mid.sets → OnOk r (SetsNote mid.sets new.sets g place true)
    → OnErr r (SameNotes mid.sets new.sets) → Stays old new
noted_stays (Ok x) old mid new g place same ok err rule q was = record {
  group = was.group;
  own = was.own;
  noted = set_keeps mid.sets new.sets g place ok was.group q (same was.group q ∙ was.noted);
}
noted_stays (Err x) old mid new g place same ok err rule q was = record { group = was.group; own = was.own; noted = err was.group q ∙ same was.group q ∙ was.noted }

-- notes that are the same at a place
pub noted_same : (old new : RuleGroups) (rule : List Condition) (q : ℕ) → ((g : ℕ) → notes new.sets g q ≡ notes old.sets g q) → IsNoted old rule q → IsNoted new rule q
noted_same old new rule q same was = record { group = was.group; own = was.own; noted = same was.group ∙ was.noted }

-- the rule at a place is forgotten in group 0 and in those that the conditions seen so far name, and what stands at other places is as it was
pub record IsForgotten (first now : Sets) (seen : List Condition) (place : ℕ) : Type 0 where
  pub none : notes now 0 place ≡ false
  pub gone : (n : ℕ) → IsAsked seen n → notes now n place ≡ false
  pub others : (g q : ℕ) → q ≢ place → notes now g q ≡ notes first g q

pub forgotten-start : (first now : Sets) (place : ℕ) → SetsNote first now 0 place false → IsForgotten first now [] place
forgotten-start first now place s = record {
  none = set_here first now 0 place false s;
  gone = λ n h. absurd (asked-none n h);
  others = λ g q ne. set_others first now 0 place false s g q ne;
}

pub forgotten-other : (first now : Sets) (seen : List Condition) (c : Condition) (place : ℕ) → number_of c ≡ None → IsForgotten first now seen place
    → IsForgotten first now (seen ++ c ∷ []) place
forgotten-other first now seen c place is was = record {
  none = was.none;
  gone = λ n h. ⊎_elim (was.gone n) (λ e. absurd (no_number (sym is ∙ e))) (asked-cases seen c n h);
  others = was.others;
}
  where
    no_number : {n : ℕ} → None ≡ Some n → ⊥
    no_number e = cc

pub forgotten-more : (first now next : Sets) (seen : List Condition) (c : Condition) (n place : ℕ) → number_of c ≡ Some n → SetsNote now next n place false
    → IsForgotten first now seen place → IsForgotten first next (seen ++ c ∷ []) place
forgotten-more first now next seen c n place is s was = record {
  none = set_gone now next n place s 0 place was.none;
  gone = λ m h. ⊎_elim (λ old. set_gone now next n place s m place (was.gone m old))
      (λ e. ap (λ k. notes next k place) (same_number (sym e ∙ is)) ∙ set_here now next n place false s) (asked-cases seen c m h);
  others = λ g q ne. set_others now next n place false s g q ne ∙ was.others g q ne;
}
  where
    same_number : {m k : ℕ} → Some m ≡ Some k → m ≡ k
    same_number e = cc

-- it is forgotten in each of its groups
pub forgotten-own : (first now : Sets) (rule : List Condition) (place n : ℕ) → IsForgotten first now rule place → IsOwn rule n → notes now n place ≡ false
forgotten-own first now rule place n was own = ⊎_elim (was.gone n) (λ h. ap (λ k. notes now k place) h.0 ∙ was.none) own

-- a set's places
place_in : (keys : List ℕ) (q : ℕ) → list_any (is_at (nat_cmp q)) keys ≡ true → Contains keys q
place_in [] q h = absurd (false≢true h)
place_in (k ∷ keys) q h = by (place_in keys q) (is_at (nat_cmp q) k) refl h
  where
    by : (list_any (is_at (nat_cmp q)) keys ≡ true → Contains keys q) → (b : Bool) → is_at (nat_cmp q) k ≡ b → (b || list_any (is_at (nat_cmp q)) keys) ≡ true → Contains (k ∷ keys) q
    by rest true e h = (0, omega arith, sym (is_same q k e))
    by rest false e h = let r = rest h in (suc r.0, omega (arith, r.1), r.2)

pub group_added : (old new keys : List ℕ) (q : ℕ) → new ≡ old ++ keys → list_any (is_at (nat_cmp q)) keys ≡ true → Contains new q
group_added old new keys q e h = subst (λ l. Contains l q) (sym e) (Contains-append_right old keys q (place_in keys q h))
