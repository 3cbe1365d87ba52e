-- The places, the groups and the counts go together after each call.
use Rattle.std.proofs.Common.{◌≡◌, ◌≢◌, ◌⊎◌, ℕ, ◌+◌, ◌-◌, ◌<◌, ◌≤◌, Bool, true, false, cond, eqb, not, List, [], ◌∷◌, ◌++◌, length, Option, None, Some, refl, sym, ap, ◌∙◌, subst, inl, inr, arith}
use Rattle.std.specs.Prelude.{◌==◌, set, IfErr, OnOk, OnErr, Result, Ok, Err}
use Rattle.std.specs.List.{Contains, filter, sum_by, count_by}
use Rattle.std.specs.Ordering.{nat_cmp}
use Rattle.std.specs.BTreeMap.{is_at}
use Rattle.std.proofs.lemmas.Bool.{cases_eq}
use Rattle.std.proofs.lemmas.Bool.Decides.{Decides-eqb, nat_tests}
use Rattle.std.proofs.lemmas.List.Sums.{sum_by-append, sum_by-cons}
use Rattle.std.specs.Cmp.{nat_cmp_total, eq_by_cmp_equiv}
use Rattle.std.specs.FinMap.{nat_cmp-IsAntisymmetric}
use Rattle.std.specs.declared.cmp.Ordering.{Ordering}
use Rattle.std.specs.declared.cmp.Ordering.TheVariants.{Less, Equal, Greater}
use Rattle.std.specs.Ordering.{is_eq}
use Rattle.atspi_match.specs.declared.condition.Condition.{Condition}
use Rattle.atspi_match.specs.declared.counts.Counts.{Counts}
use Rattle.atspi_match.specs.declared.rule_groups.RuleGroups.{RuleGroups}
use Rattle.atspi_match.specs.Counts.{count_in, SetsCount, SameCounts}
use Rattle.atspi_match.specs.RuleGroups.{IsNoted, Stays}
use Rattle.atspi_match.specs.RuleIndex.{rules_of, without_rules, IsWithinLimit, GoesOut}
use Rattle.atspi_match.specs.Slots.{Slots, Pair, held_in, slot_at, AreNoted, IsIndexed, IsFirstSlot}
use Rattle.atspi_match.proofs.IndexLemmas.{limit-push, limit-goes_out, limit-filter, goes_out}
use Rattle.atspi_match.proofs.SlotLemmas.{held-push, noted-filled}

equal_of_tie : (r : Ordering) → is_eq r ≡ true → r ≡ Equal
equal_of_tie Less e = cc
equal_of_tie Equal e = refl
equal_of_tie Greater e = cc

-- a number is at a key where the two are equal
at_is : (k q : ℕ) → is_at (nat_cmp k) q ≡ eqb k q
at_is k q = elim (cases_eq k q) [
  | inl same ↦ subst (λ n. is_at (nat_cmp k) n ≡ eqb k n) same ((eq_by_cmp_equiv nat_cmp_total).refl k ∙ sym ((Decides-eqb k k).1 refl))
  | inr ne ↦ by (is_at (nat_cmp k) q) refl ne ∙ sym (apart k q ne)
]
  where
    apart : (k q : ℕ) → k ≢ q → eqb k q ≡ false
    apart k q ne = grind (arith, nat_tests)

    by : (b : Bool) → is_at (nat_cmp k) q ≡ b → k ≢ q → is_at (nat_cmp k) q ≡ false
    by true e ne = absurd (ne (nat_cmp-IsAntisymmetric k q (equal_of_tie _ e)))
    by false e ne = e

abbrev weight : ℕ → Pair → ℕ
weight c p = cond (eqb p.0 c) 1 0

rules-push : (c : ℕ) (pairs : List Pair) (p : Pair) → rules_of c (pairs ++ p ∷ []) ≡ rules_of c pairs + weight c p
rules-push c pairs p =
    let sum : sum_by (weight c) (pairs ++ p ∷ []) ≡ sum_by (weight c) pairs + (weight c p + 0) =
    sum_by-append (weight c) pairs (p ∷ []) ∙ ap (λ n. sum_by (weight c) pairs + n) (sum_by-cons (weight c) p []) in
    omega arith

rules-out : (c : ℕ) (old new : List Pair) (p : Pair) → GoesOut old new p → rules_of c old ≡ rules_of c new + weight c p
rules-out c old new p out =
    let was : sum_by (weight c) old ≡ sum_by (weight c) out.front + (weight c p + sum_by (weight c) out.back) =
    ap (sum_by (weight c)) out.was ∙ sum_by-append (weight c) out.front (p ∷ out.back)
    ∙ ap (λ n. sum_by (weight c) out.front + n) (sum_by-cons (weight c) p out.back) in
    let is : sum_by (weight c) new ≡ sum_by (weight c) out.front + sum_by (weight c) out.back =
    ap (sum_by (weight c)) out.is ∙ sum_by-append (weight c) out.front out.back in
    omega arith

rules-cons : (c : ℕ) (p : Pair) (pairs : List Pair) → rules_of c (p ∷ pairs) ≡ weight c p + rules_of c pairs
rules-cons c p pairs = sum_by-cons (weight c) p pairs

rules-without : (c conn : ℕ) (pairs : List Pair) → rules_of c (without_rules conn pairs) ≡ cond (eqb conn c) 0 (rules_of c pairs)
rules-without c conn [] = none (eqb conn c)
  where
    none : (b : Bool) → let none_ : ℕ = 0 in none_ ≡ cond b 0 0
    none true = refl
    none false = refl
rules-without c conn (p ∷ pairs) = by (rules-without c conn pairs) (cases_eq p.0 conn)
  where
    more : (b : Bool) (n m : ℕ) → cond b 1 0 ≡ m → cond b 0 n ≡ cond b 0 (m + n)
    more true n m e = refl
    more false n m e = let none_ : m ≡ 0 = sym e in omega arith

    other : (a b : Bool) (w n k : ℕ) → w ≡ cond a 1 0 → n ≡ cond b 0 k → (a ≡ true → b ≡ true → ⊥) → w + n ≡ cond b 0 (w + k)
    other true true w n k e f never = absurd (never refl refl)
    other true false w n k e f never = ap (λ m. w + m) f
    other false true w n k e f never = let none_ : w ≡ 0 = e in let none__ : n ≡ 0 = f in omega arith
    other false false w n k e f never = ap (λ m. w + m) f

    by : rules_of c (without_rules conn pairs) ≡ cond (eqb conn c) 0 (rules_of c pairs) → (p.0 ≡ conn) ⊎ (p.0 ≢ conn)
        → rules_of c (without_rules conn (p ∷ pairs)) ≡ cond (eqb conn c) 0 (rules_of c (p ∷ pairs))
    by rest (inl same) =
        ap (λ b. rules_of c (cond (not b) (p ∷ without_rules conn pairs) (without_rules conn pairs))) ((Decides-eqb p.0 conn).1 same)
        ∙ rest ∙ more (eqb conn c) (rules_of c pairs) (weight c p) (ap (λ n. cond {A = ℕ} (eqb n c) 1 0) (sym same))
        ∙ ap (cond (eqb conn c) 0) (sym (rules-cons c p pairs))
    by rest (inr ne) =
        ap (λ b. rules_of c (cond (not b) (p ∷ without_rules conn pairs) (without_rules conn pairs))) (apart p.0 conn ne)
        ∙ rules-cons c p (without_rules conn pairs)
        ∙ other (eqb p.0 c) (eqb conn c) (weight c p) (rules_of c (without_rules conn pairs)) (rules_of c pairs) refl rest
        (λ t s. ne ((Decides-eqb p.0 c).0 t ∙ sym ((Decides-eqb conn c).0 s)))
        ∙ ap (cond (eqb conn c) 0) (sym (rules-cons c p pairs))
      where
        apart : (k q : ℕ) → k ≢ q → eqb k q ≡ false
        apart k q ne = grind (arith, nat_tests)

-- nothing yet
pub indexed-none : (slots : Slots) (groups : RuleGroups) (counts : Counts) → slots ≡ [] → ((c : ℕ) → count_in counts.counts c ≡ 0) → IsIndexed slots groups counts
indexed-none slots groups counts none empty = subst (λ s. IsIndexed s groups counts) (sym none) (record {
  within = λ c. omega arith;
  noted = λ place pair is. absurd (nowhere place pair is);
  counted = empty;
})
  where
    nowhere : (place : ℕ) (pair : Pair) → slot_at [] place ≡ Some pair → ⊥
    nowhere place pair is = cc

-- one rule more
pub indexed-put : (slots new : Slots) (groups after : RuleGroups) (counts next : Counts) (conn : ℕ) (rule : List Condition) → IsIndexed slots groups counts
    → rules_of conn (held_in slots) ≢ 512 → new ≡ slots ++ Some (conn, rule) ∷ [] → Stays groups after → IsNoted after rule (length slots)
    → SetsCount counts.counts next.counts conn (count_in counts.counts conn + 1) → IsIndexed new after next
indexed-put slots new groups after counts next conn rule was room is stays noted counted = subst (λ s. IsIndexed s after next) (sym is) (record {
  within = subst IsWithinLimit (sym (held-push slots (conn, rule))) (limit-push (held_in slots) conn rule was.within room);
  noted = noted-filled groups after slots (conn, rule) was.noted stays noted;
  counted = λ c. counted c ∙ ap (λ b. cond b (count_in counts.counts conn + 1) (count_in counts.counts c)) (at_is conn c)
      ∙ by c (cases_eq conn c)
      ∙ sym (ap (rules_of c) (held-push slots (conn, rule)) ∙ rules-push c (held_in slots) (conn, rule));
})
  where
    apart : (k q : ℕ) → k ≢ q → eqb k q ≡ false
    apart k q ne = grind (arith, nat_tests)

    by : (c : ℕ) → (conn ≡ c) ⊎ (conn ≢ c) → cond (eqb conn c) (count_in counts.counts conn + 1) (count_in counts.counts c) ≡ rules_of c (held_in slots) + cond (eqb conn c) 1 0
    by c (inl same) =
        let t : eqb conn c ≡ true = (Decides-eqb conn c).1 same in
        ap (λ b. cond b (count_in counts.counts conn + 1) (count_in counts.counts c)) t
        ∙ ap (λ n. n + 1) (was.counted conn ∙ ap (λ k. rules_of k (held_in slots)) same)
        ∙ ap (λ b. rules_of c (held_in slots) + cond {A = ℕ} b 1 0) (sym t)
    by c (inr ne) =
        let f : eqb conn c ≡ false = apart conn c ne in
        ap (λ b. cond b (count_in counts.counts conn + 1) (count_in counts.counts c)) f
        ∙ was.counted c ∙ zero_more (rules_of c (held_in slots))
        ∙ ap (λ b. rules_of c (held_in slots) + cond {A = ℕ} b 1 0) (sym f)
      where
        zero_more : (n : ℕ) → n ≡ n + 0
        zero_more n = omega arith

-- none, since memory was wanting
pub indexed-same : (slots new : Slots) (groups after : RuleGroups) (counts next : Counts) → IsIndexed slots groups counts → new ≡ slots → Stays groups after
    → SameCounts counts.counts next.counts → IsIndexed new after next
indexed-same slots new groups after counts next was is stays same = subst (λ s. IsIndexed s after next) (sym is) (record {
  within = was.within;
  noted = λ place pair at. stays pair.1 place (was.noted place pair at);
  counted = λ c. same c ∙ was.counted c;
})

-- one rule less
pub indexed-out : (slots new : Slots) (groups after : RuleGroups) (counts next : Counts) (conn : ℕ) (rule : List Condition) → IsIndexed slots groups counts
    → GoesOut (held_in slots) (held_in new) (conn, rule) → AreNoted after new → SetsCount counts.counts next.counts conn (count_in counts.counts conn - 1) → IsIndexed new after next
indexed-out slots new groups after counts next conn rule was out noted counted = record {
  within = limit-goes_out (held_in slots) (held_in new) (conn, rule) out was.within;
  noted = noted;
  counted = λ c. counted c ∙ ap (λ b. cond b (count_in counts.counts conn - 1) (count_in counts.counts c)) (at_is conn c) ∙ by c (cases_eq conn c);
}
  where
    apart : (k q : ℕ) → k ≢ q → eqb k q ≡ false
    apart k q ne = grind (arith, nat_tests)

    by : (c : ℕ) → (conn ≡ c) ⊎ (conn ≢ c) → cond (eqb conn c) (count_in counts.counts conn - 1) (count_in counts.counts c) ≡ rules_of c (held_in new)
    by c (inl same) =
        let t : eqb conn c ≡ true = (Decides-eqb conn c).1 same in
        let n : count_in counts.counts conn ≡ rules_of c (held_in slots) = was.counted conn ∙ ap (λ k. rules_of k (held_in slots)) same in
        let e : rules_of c (held_in slots) ≡ rules_of c (held_in new) + cond (eqb conn c) 1 0 = rules-out c (held_in slots) (held_in new) (conn, rule) out in
        let w : cond {A = ℕ} (eqb conn c) 1 0 ≡ 1 = ap (λ b. cond {A = ℕ} b 1 0) t in
        ap (λ b. cond b (count_in counts.counts conn - 1) (count_in counts.counts c)) t ∙ less _ _ _ _ n e w
      where
        less : (a b d w : ℕ) → a ≡ b → b ≡ d + w → w ≡ 1 → a - 1 ≡ d
        less a b d w n e f = omega arith
    by c (inr ne) =
        let f : eqb conn c ≡ false = apart conn c ne in
        let e : rules_of c (held_in slots) ≡ rules_of c (held_in new) + cond (eqb conn c) 1 0 = rules-out c (held_in slots) (held_in new) (conn, rule) out in
        let w : cond {A = ℕ} (eqb conn c) 1 0 ≡ 0 = ap (λ b. cond {A = ℕ} b 1 0) f in
        ap (λ b. cond b (count_in counts.counts conn - 1) (count_in counts.counts c)) f ∙ was.counted c ∙ same _ _ _ e w
      where
        same : (b d w : ℕ) → b ≡ d + w → w ≡ 0 → b ≡ d
        same b d w e f = omega arith

-- all of a connection less
pub indexed-dropped : (slots new : Slots) (groups after : RuleGroups) (counts next : Counts) (conn : ℕ) → IsIndexed slots groups counts
    → held_in new ≡ without_rules conn (held_in slots) → AreNoted after new → SetsCount counts.counts next.counts conn 0 → IsIndexed new after next
indexed-dropped slots new groups after counts next conn was is noted counted = record {
  within = subst IsWithinLimit (sym is) (limit-filter (λ (p : Pair). not (p.0 == conn)) (held_in slots) was.within);
  noted = noted;
  counted = λ c. counted c ∙ ap (λ b. cond b 0 (count_in counts.counts c)) (at_is conn c) ∙ ap (cond (eqb conn c) 0) (was.counted c)
      ∙ sym (ap (rules_of c) is ∙ rules-without c conn (held_in slots));
}

-- a connection with less than 512 rules
pub room_below : (slots : Slots) (groups : RuleGroups) (counts : Counts) (conn : ℕ) (pairs : List Pair) → IsIndexed slots groups counts → held_in slots ≡ pairs
    → rules_of conn pairs ≢ 512 → count_in counts.counts conn < 512
room_below slots groups counts conn pairs was is room =
    let w : rules_of conn (held_in slots) ≤ 512 = was.within conn in
    let e : count_in counts.counts conn ≡ rules_of conn (held_in slots) = was.counted conn in
    let n : rules_of conn (held_in slots) ≢ 512 = subst (λ l. rules_of conn l ≢ 512) (sym is) room in
    omega arith
