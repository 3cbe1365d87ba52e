-- Lists of connections with their rules.
use Rattle.std.proofs.Common.{◌≡◌, ◌≢◌, ◌⊎◌, ◌↔◌, ℕ, ◌+◌, ◌<◌, ◌≤◌, Bool, true, false, cond, eqb, List, [], ◌∷◌, ◌++◌, length, get_or, take, drop, suc, refl, sym, ap, subst, inl, inr, ⊎_elim, ◌∙◌, arith, drop-cons}
use Rattle.std.specs.List.{Contains, filter, sum_by, remove}
use Rattle.std.proofs.lemmas.Bool.Decides.{Decides-eqb}
use Rattle.std.proofs.lemmas.List.{take_more, take-append-drop}
use Rattle.std.proofs.lemmas.List.Sums.{sum_by-append, sum_by-cons}
use Rattle.std.proofs.lemmas.List.Elements.{Contains-append_left, Contains-push, Contains-push_cases}
use Rattle.std.specs.Ordering.{nat_cmp}
use Rattle.std.specs.List.Retain.{IsFiltered, DiffersFromLast}
use Rattle.std.specs.List.Sorted.{IsPermutation, IsSorted, IsStrictlyIncreasing}
use Rattle.std.proofs.lemmas.List.Filters.{dedup_is}
use Rattle.std.proofs.lemmas.List.Kept.{Contains-dedup_nat, Contains-from_dedup}
use Rattle.std.proofs.lemmas.List.Sorted.{Contains-permutation, IsPermutation-sym}
use Rattle.std.proofs.lemmas.Map.Keys.{IsStrictlyIncreasing-dedup}
use Rattle.atspi_message.specs.Envelope.{Envelope}
use Rattle.atspi_names.specs.Owners.{Owners}
use Rattle.atspi_match.specs.declared.condition.Condition.{Condition}
use Rattle.atspi_match.specs.Matching.{Matches}
use Rattle.atspi_match.specs.RuleIndex.{AreReceivers, rules_of, without_first, IsWithinLimit, GoesOut, IsFirstAt, Receives}

-- connections with their rules
abbrev pub Pairs : Type 0
Pairs = List (ℕ × List Condition)

-- the pair at the first place goes out
pub goes_out : (pairs new : Pairs) (conn : ℕ) (rule : List Condition) (i : ℕ) → IsFirstAt pairs conn rule i → new ≡ remove pairs i
    → GoesOut pairs new (conn, rule)
goes_out pairs new conn rule i at is = record {
  front = take i pairs;
  back = drop (suc i) pairs;
  was = sym (take-append-drop i pairs)
      ∙ ap (λ z. take i pairs ++ z) (drop-cons pairs i (conn, rule) at.below ∙ ap (λ p. p ∷ drop (suc i) pairs) (at.is (conn, rule)));
  is = is;
  first = at.first;
}

-- the pair is among the pairs
pub contains-first : (pairs : Pairs) (conn : ℕ) (rule : List Condition) (i : ℕ) → IsFirstAt pairs conn rule i → Contains pairs (conn, rule)
contains-first pairs conn rule i at = (i, at.below, at.is (conn, rule))

-- 1 for a rule of the connection
abbrev weight : ℕ → ℕ × List Condition → ℕ
weight c p = cond (eqb p.0 c) 1 0

weight_at : (b : Bool) (n : ℕ) → (b ≡ true → n < 512) → n ≤ 512 → n + cond b 1 0 ≤ 512
weight_at true n below within = let l = below refl in omega arith
weight_at false n below within = omega arith

-- one more rule of a connection that may have it
pub limit-push : (pairs : Pairs) (conn : ℕ) (rule : List Condition) → IsWithinLimit pairs → rules_of conn pairs ≢ 512
    → IsWithinLimit (pairs ++ (conn, rule) ∷ [])
limit-push pairs conn rule within room c =
    let more = weight_at (eqb conn c) (rules_of c pairs) (λ e. below ((Decides-eqb conn c).0 e)) (within c) in
    let sum : sum_by (weight c) (pairs ++ (conn, rule) ∷ []) ≡ sum_by (weight c) pairs + (weight c (conn, rule) + 0) =
    sum_by-append (weight c) pairs ((conn, rule) ∷ [])
    ∙ ap (λ n. sum_by (weight c) pairs + n) (sum_by-cons (weight c) (conn, rule) []) in
    omega arith
  where
    below : conn ≡ c → rules_of c pairs < 512
    below e = let w = within c in let n : rules_of c pairs ≢ 512 = subst (λ d. rules_of d pairs ≢ 512) e room in omega arith

-- a connection with one rule more has room for that one
pub room-before : (front back : Pairs) (pair : ℕ × List Condition) → IsWithinLimit (front ++ pair ∷ back) → rules_of pair.0 front ≢ 512
room-before front back pair within full =
    let w : sum_by (weight pair.0) (front ++ pair ∷ back) ≤ 512 = within pair.0 in
    let sum : sum_by (weight pair.0) (front ++ pair ∷ back) ≡ sum_by (weight pair.0) front + (weight pair.0 pair + sum_by (weight pair.0) back) =
    sum_by-append (weight pair.0) front (pair ∷ back) ∙ ap (λ n. sum_by (weight pair.0) front + n) (sum_by-cons (weight pair.0) pair back) in
    let one : weight pair.0 pair ≡ 1 = ap (λ b. cond {A = ℕ} b 1 0) ((Decides-eqb pair.0 pair.0).1 refl) in
    omega (arith, full)

-- the first rules are within the limit where all are
pub limit-front : (a b : Pairs) → IsWithinLimit (a ++ b) → IsWithinLimit a
limit-front a b within c =
    let w : sum_by (weight c) (a ++ b) ≤ 512 = within c in
    let s : sum_by (weight c) (a ++ b) ≡ sum_by (weight c) a + sum_by (weight c) b = sum_by-append (weight c) a b in
    omega arith

-- what is left where a pair goes out is within the limit
pub limit-goes_out : (old new : Pairs) (pair : ℕ × List Condition) → GoesOut old new pair → IsWithinLimit old → IsWithinLimit new
limit-goes_out old new pair out within c =
    let w : sum_by (weight c) old ≤ 512 = within c in
    let was : sum_by (weight c) old ≡ sum_by (weight c) out.front + (weight c pair + sum_by (weight c) out.back) =
    ap (sum_by (weight c)) out.was ∙ sum_by-append (weight c) out.front (pair ∷ out.back)
    ∙ ap (λ n. sum_by (weight c) out.front + n) (sum_by-cons (weight c) pair out.back) in
    let is : sum_by (weight c) new ≡ sum_by (weight c) out.front + sum_by (weight c) out.back =
    ap (sum_by (weight c)) out.is ∙ sum_by-append (weight c) out.front out.back in
    omega arith

-- a filter adds no rule
fewer_at : (f : ℕ × List Condition → ℕ) (x : ℕ × List Condition) (kept pairs : Pairs) (b : Bool) → sum_by f kept ≤ sum_by f pairs
    → sum_by f (cond b (x ∷ kept) kept) ≤ f x + sum_by f pairs
fewer_at f x kept pairs true rest = let e : sum_by f (x ∷ kept) ≡ f x + sum_by f kept = sum_by-cons f x kept in omega arith
fewer_at f x kept pairs false rest = omega arith

fewer : (p : ℕ × List Condition → Bool) (f : ℕ × List Condition → ℕ) (pairs : Pairs) → sum_by f (filter p pairs) ≤ sum_by f pairs
fewer p f [] = omega arith
fewer p f (x ∷ pairs) = rw (sum_by-cons f x pairs) (fewer_at f x (filter p pairs) pairs (p x) (fewer p f pairs))

pub limit-filter : (p : ℕ × List Condition → Bool) (pairs : Pairs) → IsWithinLimit pairs → IsWithinLimit (filter p pairs)
limit-filter p pairs within c = let w : sum_by (weight c) pairs ≤ 512 = within c in let l = fewer p (weight c) pairs in omega arith

-- the numbers found so far are those that the first pairs have receive
abbrev pub Finds : List ℕ → Pairs → Envelope → Owners → Type 0
Finds found pairs e owners = (conn : ℕ) → Contains found conn ↔ Receives pairs e owners conn

-- sorted, and each once, they are the receivers
pub are_receivers : (found sorted numbers : List ℕ) (pairs : Pairs) (e : Envelope) (owners : Owners) → Finds found pairs e owners
    → IsPermutation found sorted → IsSorted nat_cmp sorted
    → IsFiltered (DiffersFromLast eqb) [] sorted numbers → AreReceivers pairs e owners numbers
are_receivers found sorted numbers pairs e owners finds moved rises filtered =
    let is = dedup_is eqb sorted numbers filtered in
    record {
      rising = rw is (IsStrictlyIncreasing-dedup sorted rises);
      each = λ conn. (
        λ h. (finds conn).0 (Contains-permutation sorted found conn (IsPermutation-sym found sorted moved)
            (Contains-from_dedup eqb sorted conn (rw is at h))),
        λ r. rw is (Contains-dedup_nat sorted conn (Contains-permutation found sorted conn moved ((finds conn).1 r))),
      );
    }

-- they were appended
pub appended : (old new numbers : List ℕ) (pairs : Pairs) (e : Envelope) (owners : Owners) → AreReceivers pairs e owners numbers
    → new ≡ old ++ numbers
    → (receivers : List ℕ) × (new ≡ old ++ receivers) × AreReceivers pairs e owners receivers
appended old new numbers pairs e owners are is = (numbers, is, are)

-- numbers, sorted, each once
pub rising_once : (found sorted numbers : List ℕ) → IsPermutation found sorted → IsSorted nat_cmp sorted → IsFiltered (DiffersFromLast eqb) [] sorted numbers
    → IsStrictlyIncreasing numbers × ((k : ℕ) → Contains found k → Contains numbers k)
rising_once found sorted numbers moved rises filtered =
    let is = dedup_is eqb sorted numbers filtered in (
      rw is (IsStrictlyIncreasing-dedup sorted rises),
      λ k h. rw is (Contains-dedup_nat sorted k (Contains-permutation found sorted k moved h)),
    )
