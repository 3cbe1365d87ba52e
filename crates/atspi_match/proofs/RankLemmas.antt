-- Conditions in the order of their keys: which keys stand among them, and one condition more.
use Rattle.std.proofs.Common.{◌≡◌, ◌≢◌, ℕ, zero, suc, ◌+◌, ◌-◌, ◌<◌, ◌≤◌, List, [], ◌∷◌, ◌++◌, length, map, take, drop, Bool, true, false, refl, sym, ap, subst, ◌∙◌, arith, ◌⊎◌, inl, inr, ◌==◌, Option, Some, None, if◌then◌else◌, insert, codes, cond}
use Rattle.std.specs.Prelude.{Contains, slice_index_or, nat_lt, ◌&&◌, ◌||◌, count_by, encode_utf8_all}
use Rattle.std.specs.List.{AllByRecursion, list_any}
use Rattle.std.specs.List.Sorted.{IsPermutation}
use Rattle.std.proofs.lemmas.Bool.{cases_Bool, eqb-true, eqb-false, eq-eqb, ne_eqb, ltb-true, ltb-false, lt-ltb, le-ltb, or_cases, or_parts, or_left, or_right, and_right, both_ways, cases_eq}
use Rattle.std.proofs.lemmas.List.Sums.{sum_by-cons}
use Rattle.std.proofs.lemmas.List.Sorted.{IsPermutation-insert, list_any-IsPermutation}
use Rattle.std.specs.Prelude.{chars}
use Rattle.std.specs.Str.{IsAscii}
use Rattle.std.proofs.lemmas.Str.{chars-encodes, scalars-chars, IsUtf8-from_ascii}
use Rattle.atspi_base.specs.Text.{IsTextBytes}
use Rattle.atspi_base.proofs.TextLemmas.{encodes_again}
use Rattle.atspi_base.specs.valid_names.Names.{IsBusName, IsInterface, IsMember, IsPath, is_bus_name, is_interface, is_member, is_path}
use Rattle.atspi_base.specs.valid_names.Elements.{are_elements, are_two_or_more, parts_of}
use Rattle.atspi_base.proofs.OfValidNames.NameLemmas.{IsBusName-from_test, IsInterface-from_test, IsMember-from_test, IsPath-from_test}
use Rattle.atspi_match.specs.Conditions.{rank, key_text, IsCondition, IsText, IsNamespace, AreRising, has_rank, IsRule}
use Rattle.atspi_match.specs.inner.Keys.{key_of, key_rank, IsKey, key_in, has_rival, key_refusal}
use Rattle.atspi_match.specs.RuleFaults.{IsUnknown, IsRival}
use Rattle.atspi_match.specs.declared.condition.MessageType.TheVariants as types
use Rattle.atspi_match.specs.declared.condition.Condition.{Condition}
use Rattle.atspi_match.specs.declared.condition.Condition.TheVariants as conditions
use Rattle.atspi_match.specs.declared.key.Key.{Key}
use Rattle.atspi_match.specs.declared.key.Key.TheVariants as keys
use Rattle.atspi_match.proofs.FaultLemmas.{MayStand}
use Rattle.atspi_match.proofs.KeyLemmas.{key_bytes, key_text-of, rank-of, is_key-of, key_complete, same_key}

-- a key by its place among the keys
key_from_rank : ℕ → Key
key_from_rank r =
    if r == 0 then keys.Kind else if r == 1 then keys.Sender else if r == 2 then keys.Interface else if r == 3 then keys.Member else if r == 4 then keys.Path
    else if r == 5 then keys.PathNamespace else if r == 6 then keys.Destination else if nat_lt r 71 then keys.Arg (r - 7) else if nat_lt r 135 then keys.ArgPath (r - 71)
    else if r == 135 then keys.Arg0Namespace else keys.Eavesdrop

far : (m n : ℕ) → (m ≡ n → ⊥) → (m == n) ≡ false
far m n h = ne_eqb m n h

from_rank : (k : Key) → IsKey k → key_from_rank (key_rank k) ≡ k
unfolding key_from_rank
from_rank keys.Kind h = refl
from_rank keys.Sender h = refl
from_rank keys.Interface h = refl
from_rank keys.Member h = refl
from_rank keys.Path h = refl
from_rank keys.PathNamespace h = refl
from_rank keys.Destination h = refl
from_rank (keys.Arg n) h =
    rw (far (7 + n) 0 (λ e. omega arith), far (7 + n) 1 (λ e. omega arith), far (7 + n) 2 (λ e. omega arith), far (7 + n) 3 (λ e. omega arith), far (7 + n) 4 (λ e. omega arith), far (7 + n) 5 (λ e. omega arith), far (7 + n) 6 (λ e. omega arith), lt-ltb (7 + n) 71 (omega (arith, h)))
    (ap keys.Arg (omega arith))
from_rank (keys.ArgPath n) h =
    rw (far (71 + n) 0 (λ e. omega arith), far (71 + n) 1 (λ e. omega arith), far (71 + n) 2 (λ e. omega arith), far (71 + n) 3 (λ e. omega arith), far (71 + n) 4 (λ e. omega arith), far (71 + n) 5 (λ e. omega arith), far (71 + n) 6 (λ e. omega arith), le-ltb (71 + n) 71 (omega arith), lt-ltb (71 + n) 135 (omega (arith, h)))
    (ap keys.ArgPath (omega arith))
from_rank keys.Arg0Namespace h = refl
from_rank keys.Eavesdrop h = refl

pub rank_injective : (k l : Key) → IsKey k → IsKey l → key_rank k ≡ key_rank l → k ≡ l
rank_injective k l h m e = sym (from_rank k h) ∙ ap key_from_rank e ∙ from_rank l m

-- what contains an element, by its first element
contains_cons : (x y : List ℕ) (ys : List (List ℕ)) → Contains (y ∷ ys) x → (y ≡ x) ⊎ Contains ys x
contains_cons x y ys (zero, lt, e) = inl e
contains_cons x y ys (suc k, lt, e) = inr (k, omega (arith, lt), e)

contains_tail : (x y : List ℕ) (ys : List (List ℕ)) → Contains ys x → Contains (y ∷ ys) x
contains_tail x y ys (k, lt, e) = (suc k, omega (arith, lt), e)

pub contains_has_rank : (cs : List Condition) (k : Key) → AllByRecursion IsCondition cs → IsKey k → Contains (map key_text cs) (key_bytes k) → has_rank (key_rank k) cs ≡ true
contains_has_rank [] k each h (i, lt, e) = absurd (omega (arith, lt))
contains_has_rank (c ∷ cs) k each h e = by (contains_has_rank cs k each.1 h) (contains_cons (key_bytes k) (key_text c) (map key_text cs) e)
  where
    by : (Contains (map key_text cs) (key_bytes k) → has_rank (key_rank k) cs ≡ true) → (key_text c ≡ key_bytes k) ⊎ Contains (map key_text cs) (key_bytes k) → has_rank (key_rank k) (c ∷ cs) ≡ true
    by rest (inl is) =
        let one : key_in (key_bytes (key_of c)) ≡ Some (key_of c) = key_complete (key_of c) (is_key-of c each.0) in
        let two : key_in (key_bytes k) ≡ Some k = key_complete k h in
        let both : key_in (key_bytes (key_of c)) ≡ key_in (key_bytes k) = ap key_in (sym (key_text-of c) ∙ is) in
        let same : key_of c ≡ k = cc in
        or_left (rank c == key_rank k) (has_rank (key_rank k) cs) (eq-eqb (rank c) (key_rank k) (rank-of c ∙ ap key_rank same))
    by rest (inr later) = or_right (rank c == key_rank k) (has_rank (key_rank k) cs) (rest later)

pub has_rank_contains : (cs : List Condition) (k : Key) → AllByRecursion IsCondition cs → IsKey k → has_rank (key_rank k) cs ≡ true → Contains (map key_text cs) (key_bytes k)
has_rank_contains [] k each h e = absurd cc
has_rank_contains (c ∷ cs) k each h e = by (has_rank_contains cs k each.1 h) (or_cases (rank c == key_rank k) (has_rank (key_rank k) cs) e)
  where
    by : (has_rank (key_rank k) cs ≡ true → Contains (map key_text cs) (key_bytes k)) → ((rank c == key_rank k) ≡ true) ⊎ (has_rank (key_rank k) cs ≡ true) → Contains (map key_text (c ∷ cs)) (key_bytes k)
    by rest (inl is) =
        let same = rank_injective (key_of c) k (is_key-of c each.0) h (sym (rank-of c) ∙ eqb-true (rank c) (key_rank k) is) in
        (0, omega arith, key_text-of c ∙ ap key_bytes same)
    by rest (inr later) = contains_tail (key_bytes k) (key_text c) (map key_text cs) (rest later)

-- some condition on each key
bus_name : IsBusName (codes "a.b")
unfolding is_bus_name are_two_or_more are_elements parts_of
bus_name = IsBusName-from_test (codes "a.b") refl

interface : IsInterface (codes "a.b")
unfolding is_interface are_two_or_more are_elements parts_of
interface = IsInterface-from_test (codes "a.b") refl

member : IsMember (codes "a")
unfolding is_member
member = IsMember-from_test (codes "a") refl

root : IsPath (codes "/")
unfolding is_path
root = IsPath-from_test (codes "/") refl

no_text : IsText []
no_text = record { scalars = refl; bytes = record { no_zero = refl; counted = omega arith }; spelled = chars-encodes [] refl }

ascii_a : IsAscii (97 ∷ [])
ascii_a zero = omega arith
ascii_a (suc i) = omega arith

a_again : encode_utf8_all (chars (97 ∷ [])) ≡ 97 ∷ []
a_again = encodes_again (97 ∷ []) (IsUtf8-from_ascii (97 ∷ []) ascii_a)

text_a : IsText (chars (97 ∷ []))
text_a =
    let bytes : IsTextBytes (97 ∷ []) = record { no_zero = refl; counted = omega arith } in
    record { scalars = scalars-chars (97 ∷ []) (IsUtf8-from_ascii (97 ∷ []) ascii_a); bytes = subst (λ l. IsTextBytes l) (sym a_again) bytes; spelled = ap chars a_again }

namespace_a : IsNamespace (encode_utf8_all (chars (97 ∷ [])))
namespace_a =
    let one : IsNamespace (97 ∷ []) = inr ((refl, tt), omega arith) in
    subst (λ l. IsNamespace l) (sym a_again) one

record ConditionOn (k : Key) : Type 0 where
  condition : Condition
  is_condition : IsCondition condition
  on_key : key_of condition ≡ k

some_condition : (k : Key) → IsKey k → ConditionOn k
some_condition keys.Kind h = record { condition = conditions.Kind types.Signal; is_condition = tt; on_key = refl }
some_condition keys.Sender h = record { condition = conditions.Sender (codes "a.b"); is_condition = bus_name; on_key = refl }
some_condition keys.Interface h = record { condition = conditions.Interface (codes "a.b"); is_condition = interface; on_key = refl }
some_condition keys.Member h = record { condition = conditions.Member (codes "a"); is_condition = member; on_key = refl }
some_condition keys.Path h = record { condition = conditions.Path (codes "/"); is_condition = root; on_key = refl }
some_condition keys.PathNamespace h = record { condition = conditions.PathNamespace (codes "/"); is_condition = root; on_key = refl }
some_condition keys.Destination h = record { condition = conditions.Destination (codes "a.b"); is_condition = bus_name; on_key = refl }
some_condition (keys.Arg n) h = record { condition = conditions.Arg n []; is_condition = (h, no_text); on_key = refl }
some_condition (keys.ArgPath n) h = record { condition = conditions.ArgPath n []; is_condition = (h, no_text); on_key = refl }
some_condition keys.Arg0Namespace h = record { condition = conditions.Arg0Namespace (chars (97 ∷ [])); is_condition = (text_a, namespace_a); on_key = refl }
some_condition keys.Eavesdrop h = record { condition = conditions.Eavesdrop true; is_condition = tt; on_key = refl }

pub known_key : (k : Key) → IsKey k → IsUnknown (key_bytes k) → ⊥
known_key k h unknown = let s = some_condition k h in unknown s.condition s.is_condition (key_text-of s.condition ∙ ap key_bytes s.on_key)

-- a key by its bytes
pub key_is : (k l : Key) → IsKey k → IsKey l → key_bytes k ≡ key_bytes l → k ≡ l
key_is k l h m e =
    let one : key_in (key_bytes k) ≡ Some k = key_complete k h in
    let two : key_in (key_bytes l) ≡ Some l = key_complete l m in
    let both : key_in (key_bytes k) ≡ key_in (key_bytes l) = ap key_in e in
    cc

-- what a refusal of a key tells
abbrev refusal_from : Bool → Bool → Option ℕ
refusal_from a b = if a then Some 3 else if b then Some 7 else None

none_of : (a b : Bool) → refusal_from a b ≡ None → (a ≡ false) × (b ≡ false)
none_of true b e = absurd cc
none_of false true e = absurd cc
none_of false false e = (refl, refl)

pub may_stand : (cs : List Condition) (k : Key) → AllByRecursion IsCondition cs → IsKey k → key_refusal k cs ≡ None → MayStand (map key_text cs) (key_bytes k)
may_stand cs k each h e =
    let free = none_of (has_rank (key_rank k) cs) (has_rival k cs) e in
    record {
      known = known_key k h;
      once = λ again. both_ways (has_rank (key_rank k) cs) free.0 (contains_has_rank cs k each h again);
      no_rival = rival free.1;
    }
  where
    rival : has_rival k cs ≡ false → IsRival (map key_text cs) (key_bytes k) → ⊥
    rival none (inl (is, other)) =
        let same = key_is k keys.Path h tt is in
        both_ways (has_rank 5 cs) (ap (λ l. has_rival l cs) (sym same) ∙ none) (contains_has_rank cs keys.PathNamespace each tt other)
    rival none (inr (is, other)) =
        let same = key_is k keys.PathNamespace h tt is in
        both_ways (has_rank 4 cs) (ap (λ l. has_rival l cs) (sym same) ∙ none) (contains_has_rank cs keys.Path each tt other)

pub is_rival : (cs : List Condition) (k : Key) → AllByRecursion IsCondition cs → has_rival k cs ≡ true → IsRival (map key_text cs) (key_bytes k)
is_rival cs keys.Kind each e = absurd cc
is_rival cs keys.Sender each e = absurd cc
is_rival cs keys.Interface each e = absurd cc
is_rival cs keys.Member each e = absurd cc
is_rival cs keys.Path each e = inl (refl, has_rank_contains cs keys.PathNamespace each tt e)
is_rival cs keys.PathNamespace each e = inr (refl, has_rank_contains cs keys.Path each tt e)
is_rival cs keys.Destination each e = absurd cc
is_rival cs (keys.Arg n) each e = absurd cc
is_rival cs (keys.ArgPath n) each e = absurd cc
is_rival cs keys.Arg0Namespace each e = absurd cc
is_rival cs keys.Eavesdrop each e = absurd cc

-- why a key is refused
pub data Refusal (k : Key) (cs : List Condition) (reason : ℕ) : Type 0 where
  again : reason ≡ 3 → has_rank (key_rank k) cs ≡ true → Refusal k cs reason
  rival : reason ≡ 7 → has_rank (key_rank k) cs ≡ false → has_rival k cs ≡ true → Refusal k cs reason

pub refusal_is : (k : Key) (cs : List Condition) (reason : ℕ) → key_refusal k cs ≡ Some reason → Refusal k cs reason
refusal_is k cs reason e = by (has_rank (key_rank k) cs) (has_rival k cs) refl refl e
  where
    by : (a b : Bool) → has_rank (key_rank k) cs ≡ a → has_rival k cs ≡ b → refusal_from a b ≡ Some reason → Refusal k cs reason
    by true b f g e = let is : 3 ≡ reason = cc in again (sym is) f
    by false true f g e = let is : 7 ≡ reason = cc in rival (sym is) f g
    by false false f g e = absurd cc

-- one condition more, at its place
all_insert : (P : Condition → Type 0) (cs : List Condition) (i : ℕ) (c : Condition) → AllByRecursion P cs → P c → AllByRecursion P (insert cs i c)
all_insert P cs zero c h p = (p, h)
all_insert P [] (suc i) c h p = (p, tt)
all_insert P (d ∷ cs) (suc i) c h p = (h.0, all_insert P cs i c h.1 p)

none_before : (r : ℕ) (cs : List Condition) → AllByRecursion (λ d. r < rank d) cs → count_by (λ c. nat_lt (rank c) r) cs ≡ 0
none_before r [] h = refl
none_before r (c ∷ cs) h = rw (le-ltb (rank c) r (omega (arith, h.0)), none_before r cs h.1) refl

all_above : (r s : ℕ) (cs : List Condition) → r < s → AllByRecursion (λ d. s < rank d) cs → AllByRecursion (λ d. r < rank d) cs
all_above r s [] lt h = tt
all_above r s (c ∷ cs) lt h = (omega (arith, h.0, lt), all_above r s cs lt h.1)

pub count_here : (p : Condition → Bool) (c : Condition) (cs : List Condition) → p c ≡ true → count_by p (c ∷ cs) ≡ suc (count_by p cs)
count_here p c cs e = sum_by-cons (λ d. cond (p d) 1 0) c cs ∙ rw e (omega arith)

pub count_past : (p : Condition → Bool) (c : Condition) (cs : List Condition) → p c ≡ false → count_by p (c ∷ cs) ≡ count_by p cs
count_past p c cs e = sum_by-cons (λ d. cond (p d) 1 0) c cs ∙ rw e (omega arith)

insert_rising : (cs : List Condition) (c : Condition) → AreRising cs → has_rank (rank c) cs ≡ false → AreRising (insert cs (count_by (λ d. nat_lt (rank d) (rank c)) cs) c)
insert_rising [] c h once = (tt, tt)
insert_rising (d ∷ cs) c h once = by (nat_lt (rank d) (rank c)) refl (or_parts (rank d == rank c) (has_rank (rank c) cs) once) (insert_rising cs c h.1)
  where
    by : (t : Bool) → nat_lt (rank d) (rank c) ≡ t → ((rank d == rank c) ≡ false) × (has_rank (rank c) cs ≡ false)
        → (has_rank (rank c) cs ≡ false → AreRising (insert cs (count_by (λ e. nat_lt (rank e) (rank c)) cs) c)) → AreRising (insert (d ∷ cs) (count_by (λ e. nat_lt (rank e) (rank c)) (d ∷ cs)) c)
    by true t once later =
        subst (λ n. AreRising (insert (d ∷ cs) n c)) (sym (count_here (λ e. nat_lt (rank e) (rank c)) d cs t))
        (all_insert (λ e. rank d < rank e) cs (count_by (λ e. nat_lt (rank e) (rank c)) cs) c h.0 (ltb-true (rank d) (rank c) t), later once.1)
    by false t once later =
        let lt : rank c < rank d = omega (arith, ltb-false (rank d) (rank c) t, eqb-false (rank d) (rank c) once.0) in
        subst (λ n. AreRising (insert (d ∷ cs) n c)) (sym (count_past (λ e. nat_lt (rank e) (rank c)) d cs t ∙ none_before (rank c) cs (all_above (rank c) (rank d) cs lt h.0)))
        ((lt, all_above (rank c) (rank d) cs lt h.0), (h.0, h.1))

one_path_more : (r : ℕ) (a b : Bool) → (a && b) ≡ false → (r ≡ 4 → b ≡ false) → (r ≡ 5 → a ≡ false) → ((r == 4 || a) && (r == 5 || b)) ≡ false
one_path_more r a b e four five = by (cases_eq r 4) (cases_eq r 5)
  where
    by : (r ≡ 4) ⊎ (r ≡ 4 → ⊥) → (r ≡ 5) ⊎ (r ≡ 5 → ⊥) → ((r == 4 || a) && (r == 5 || b)) ≡ false
    by (inl is) other = rw (eq-eqb r 4 is, ne_eqb r 5 (λ f. omega (arith, is, f)), four is) refl
    by (inr not) (inl is) = rw (ne_eqb r 4 not, five is) refl
    by (inr not) (inr nor) = rw (ne_eqb r 4 not, ne_eqb r 5 nor) e

rank_is : (c : Condition) (k : Key) → IsCondition c → IsKey k → rank c ≡ key_rank k → key_of c ≡ k
rank_is c k h m e = rank_injective (key_of c) k (is_key-of c h) m (sym (rank-of c) ∙ e)

-- the conditions with one more are a rule
pub insert_rule : (cs : List Condition) (c : Condition) → IsRule cs → IsCondition c → key_refusal (key_of c) cs ≡ None → IsRule (insert cs (count_by (λ d. nat_lt (rank d) (rank c)) cs) c)
insert_rule cs c h is_condition e =
    let free = none_of (has_rank (key_rank (key_of c)) cs) (has_rival (key_of c) cs) e in
    let i : ℕ = count_by (λ d. nat_lt (rank d) (rank c)) cs in
    let moved = IsPermutation-insert cs i c in
    record {
      rising = insert_rising cs c h.rising (ap (λ r. has_rank r cs) (rank-of c) ∙ free.0);
      each = all_insert IsCondition cs i c h.each is_condition;
      one_path =
          ap (λ t. t && has_rank 5 (insert cs i c)) (sym (list_any-IsPermutation (λ d. rank d == 4) (c ∷ cs) (insert cs i c) moved))
          ∙ ap (λ t. has_rank 4 (c ∷ cs) && t) (sym (list_any-IsPermutation (λ d. rank d == 5) (c ∷ cs) (insert cs i c) moved))
          ∙ one_path_more (rank c) (has_rank 4 cs) (has_rank 5 cs) h.one_path
          (λ is. ap (λ k. has_rival k cs) (sym (rank_is c keys.Path is_condition tt is)) ∙ free.1)
          (λ is. ap (λ k. has_rival k cs) (sym (rank_is c keys.PathNamespace is_condition tt is)) ∙ free.1);
    }
