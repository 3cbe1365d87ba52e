-- Items behind one another: they are known by the bytes, and so is the rule.
use Rattle.std.proofs.Common.{◌≡◌, ◌≢◌, ℕ, zero, suc, ◌+◌, ◌<◌, ◌≤◌, List, [], ◌∷◌, ◌++◌, length, map, take, drop, Bool, true, false, refl, sym, ap, subst, ◌∙◌, arith, append_assoc, append-nil, length-append, ◌⊎◌, inl, inr, ◌==◌, cond, Option, Some, None}
use Rattle.std.specs.Prelude.{codes, Contains, count_by, nat_lt, ◌&&◌, ◌||◌}
use Rattle.std.specs.List.{All, AllByRecursion, list_any}
use Rattle.std.specs.List.Sorted.{IsPermutation}
use Rattle.std.proofs.lemmas.Bool.{cases_Bool, and_from, both_ways, eq-eqb, eqb-true, ne_eqb, or_right, or_left, or_from}
use Rattle.std.proofs.lemmas.Grind.{flat_map-append}
use Rattle.std.proofs.lemmas.List.{append_cancel_right, same_from_push}
use Rattle.std.proofs.lemmas.List.Sums.{sum_by-cons}
use Rattle.std.proofs.lemmas.List.Sorted.{All-permutation, sum_by-IsPermutation, list_any-IsPermutation, IsPermutation-middle, IsPermutation-sym, IsPermutation-trans, Contains-permutation}
use Rattle.atspi_types.specs.SignatureFaults.{Before}
use Rattle.atspi_match.specs.Conditions.{rank, key_text, value_text, IsCondition, AreRising, has_rank, IsRule}
use Rattle.atspi_match.specs.inner.Keys.{key_of, key_rank, IsKey}
use Rattle.atspi_match.specs.declared.key.Key.{Key}
use Rattle.atspi_match.specs.Grammar.{EndsItem, Item, item_text, item_value, IsItem, Part, spelling, with_commas, AreJoined, Say, SayRule, Spells, IsRuleText}
use Rattle.atspi_match.specs.RuleFaults.{KeyAt, ItemAt, IsUnknown, IsNoValue, IsRival, WrongItem, no_equals, unknown_key, twice, not_closed, bad_type, bad_value, both_paths, WrongRule, in_item, too_long, FirstRuleFault}
use Rattle.atspi_match.specs.inner.Items.{FirstItemFault, FirstFaultOfItems, ReadSoFar}
use Rattle.atspi_match.specs.declared.condition.Condition.{Condition}
use Rattle.atspi_match.specs.declared.key.Key.TheVariants as keys
use Rattle.atspi_match.proofs.WordLemmas.{item_unique, SameItem, item_key, item_text-append}
use Rattle.atspi_match.proofs.FaultLemmas.{MayStand, good_item, wrong_at_key, AtKey, at_unknown, at_twice, at_rival, at_open, at_value}
use Rattle.atspi_match.proofs.KeyLemmas.{key_bytes, key_text-of, rank-of, is_key-of, same_condition}
use Rattle.atspi_match.proofs.RankLemmas.{contains_has_rank, count_here, count_past, key_is}

-- an item with its comma, and what follows
pub cons_text : (i : Item) (is : List Item) (r : List ℕ) → with_commas (i ∷ is) ++ r ≡ item_text i ++ 44 ∷ (with_commas is ++ r)
cons_text i is r = append_assoc (item_text i ++ 44 ∷ []) (with_commas is) r ∙ append_assoc (item_text i) (44 ∷ []) (with_commas is ++ r)

-- the longer of two lists of items goes on
pub data Order (is js : List Item) (r u : List ℕ) : Type 0 where
  ahead : (more : List Item) → js ≡ is ++ more → r ≡ with_commas more ++ u → Order is js r u
  behind : (j : Item) (more : List Item) → is ≡ js ++ j ∷ more → u ≡ item_text j ++ 44 ∷ (with_commas more ++ r) → Order is js r u

more_order : (i j : Item) (is js : List Item) (r u : List ℕ) → i ≡ j → Order is js r u → Order (i ∷ is) (j ∷ js) r u
more_order i j is js r u e (ahead more a b) = ahead more (cc) b
more_order i j is js r u e (behind k more a b) = behind k more (cc) b

pub order_of : (is js : List Item) (r u : List ℕ) → AllByRecursion IsItem is → AllByRecursion IsItem js → with_commas is ++ r ≡ with_commas js ++ u → Order is js r u
order_of [] js r u h k e = ahead js refl e
order_of (i ∷ is) [] r u h k e = behind i is refl (sym e ∙ cons_text i is r)
order_of (i ∷ is) (j ∷ js) r u h k e =
    let bytes : List ℕ = with_commas (i ∷ is) ++ r in
    let one : ItemAt bytes i (44 ∷ (with_commas is ++ r)) = record { item_is = h.0; ends = refl; is = cons_text i is r } in
    let two : ItemAt bytes j (44 ∷ (with_commas js ++ u)) = record { item_is = k.0; ends = refl; is = e ∙ cons_text j js u } in
    let same = item_unique bytes i j (44 ∷ (with_commas is ++ r)) (44 ∷ (with_commas js ++ u)) one two in
    let rest : with_commas is ++ r ≡ with_commas js ++ u = cc (same.behind) in
    more_order i j is js r u same.item (order_of is js r u h.1 k.1 rest)

-- an item takes a byte at least, and its comma another
item_long : (i : Item) → 0 < length (item_text i)
item_long i = omega (arith, length-append i.blanks (i.key ++ 61 ∷ spelling i.parts), length-append i.key (61 ∷ spelling i.parts))

pub two_at_least : (i : Item) (t : List ℕ) → 2 ≤ length (item_text i ++ 44 ∷ t)
two_at_least i t = omega (arith, item_long i, length-append (item_text i) (44 ∷ t))

pub with_commas-append : (is js : List Item) → with_commas (is ++ js) ≡ with_commas is ++ with_commas js
with_commas-append is js = flat_map-append (λ item. item_text item ++ 44 ∷ []) is js

-- the conditions that items say, and one of them
pub say_keys : (is : List Item) (cs : List Condition) → Say is cs → map (λ item. item.key) is ≡ map key_text cs
say_keys [] [] h = refl
say_keys [] (c ∷ cs) h = absurd h
say_keys (i ∷ is) [] h = absurd h
say_keys (i ∷ is) (c ∷ cs) h = let first : i.key ≡ key_text c = h.0.0 in let rest = say_keys is cs h.1 in cc

pub record Split (js : List Item) (j : Item) (more : List Item) (cs : List Condition) : Type 0 where
  pub before : List Condition
  pub here : Condition
  pub after : List Condition
  pub is : cs ≡ before ++ here ∷ after
  pub say : Say js before
  pub key : j.key ≡ key_text here
  pub value : item_value j ≡ value_text here

pub say_split : (js : List Item) (j : Item) (more : List Item) (cs : List Condition) → Say (js ++ j ∷ more) cs → Split js j more cs
say_split [] j more [] h = absurd h
say_split [] j more (c ∷ cs) h = record { before = []; here = c; after = cs; is = refl; say = tt; key = h.0.0; value = h.0.1 }
say_split (i ∷ js) j more [] h = absurd h
say_split (i ∷ js) j more (c ∷ cs) h =
    let s = say_split js j more cs h.1 in
    record { before = c ∷ s.before; here = s.here; after = s.after; is = ap (λ l. c ∷ l) s.is; say = (h.0, s.say); key = s.key; value = s.value }

all_front : (P : Condition → Type 0) (xs ys : List Condition) → AllByRecursion P (xs ++ ys) → AllByRecursion P xs
all_front P [] ys h = tt
all_front P (x ∷ xs) ys h = (h.0, all_front P xs ys h.1)

all_back : (P : Condition → Type 0) (xs ys : List Condition) → AllByRecursion P (xs ++ ys) → AllByRecursion P ys
all_back P [] ys h = h
all_back P (x ∷ xs) ys h = all_back P xs ys h.1

-- a key stands once in a rule
all_above : (r s : ℕ) (cs : List Condition) → r ≤ s → AllByRecursion (λ d. s < rank d) cs → AllByRecursion (λ d. r < rank d) cs
all_above r s [] le h = tt
all_above r s (c ∷ cs) le h = (omega (arith, h.0, le), all_above r s cs le h.1)

none_at : (r : ℕ) (cs : List Condition) → AllByRecursion (λ d. r < rank d) cs → count_by (λ d. rank d == r) cs ≡ 0
none_at r [] h = refl
none_at r (c ∷ cs) h = count_past (λ d. rank d == r) c cs (ne_eqb (rank c) r (λ e. omega (arith, h.0, e))) ∙ none_at r cs h.1

rising_once : (r : ℕ) (cs : List Condition) → AreRising cs → count_by (λ d. rank d == r) cs ≤ 1
rising_once r [] h = omega arith
rising_once r (c ∷ cs) h = by (cases_Bool (rank c == r)) (rising_once r cs h.1)
  where
    by : ((rank c == r) ≡ true) ⊎ ((rank c == r) ≡ false) → count_by (λ d. rank d == r) cs ≤ 1 → count_by (λ d. rank d == r) (c ∷ cs) ≤ 1
    by (inl is) le =
        let same = eqb-true (rank c) r is in
        omega (arith, count_here (λ d. rank d == r) c cs is, none_at r cs (subst (λ s. AllByRecursion (λ d. s < rank d) cs) same h.0))
    by (inr not) le = omega (arith, count_past (λ d. rank d == r) c cs not, le)

counted : (p : Condition → Bool) (cs : List Condition) → list_any p cs ≡ true → 1 ≤ count_by p cs
counted p [] e = absurd cc
counted p (c ∷ cs) e = by (cases_Bool (p c)) (counted p cs)
  where
    by : (p c ≡ true) ⊎ (p c ≡ false) → (list_any p cs ≡ true → 1 ≤ count_by p cs) → 1 ≤ count_by p (c ∷ cs)
    by (inl is) rest = omega (arith, count_here p c cs is)
    by (inr not) rest = let later : list_any p cs ≡ true = rw not at e in omega (arith, count_past p c cs not, rest later)

any_front : (p : Condition → Bool) (xs ys : List Condition) → list_any p xs ≡ true → list_any p (xs ++ ys) ≡ true
any_front p [] ys e = absurd cc
any_front p (x ∷ xs) ys e = at (p x) (any_front p xs ys) e
  where
    at : (t : Bool) → (list_any p xs ≡ true → list_any p (xs ++ ys) ≡ true) → (t || list_any p xs) ≡ true → (t || list_any p (xs ++ ys)) ≡ true
    at true k e = refl
    at false k e = k e

any_mid : (p : Condition → Bool) (xs : List Condition) (y : Condition) (ys : List Condition) → p y ≡ true → list_any p (xs ++ y ∷ ys) ≡ true
any_mid p [] y ys e = or_left (p y) (list_any p ys) e
any_mid p (x ∷ xs) y ys e = or_right (p x) (list_any p (xs ++ y ∷ ys)) (any_mid p xs y ys e)

-- the items of a rule that stand before one of them leave it room
before_once : (ds : List Condition) (c : Condition) (es rule : List Condition) → IsPermutation (ds ++ c ∷ es) rule → IsRule rule → has_rank (rank c) ds ≡ true → ⊥
before_once ds c es rule order h stands =
    let moved = IsPermutation-trans (c ∷ (ds ++ es)) (ds ++ c ∷ es) rule (IsPermutation-sym (ds ++ c ∷ es) (c ∷ (ds ++ es)) (IsPermutation-middle ds c es)) order in
    let total : count_by (λ d. rank d == rank c) rule ≡ count_by (λ d. rank d == rank c) (c ∷ (ds ++ es)) = sum_by-IsPermutation (λ d. cond (rank d == rank c) 1 0) (c ∷ (ds ++ es)) rule moved in
    let first = count_here (λ d. rank d == rank c) c (ds ++ es) (eq-eqb (rank c) (rank c) refl) in
    let rest = counted (λ d. rank d == rank c) (ds ++ es) (any_front (λ d. rank d == rank c) ds es stands) in
    omega (arith, rising_once (rank c) rule h.rising, total, first, rest)

-- facts of each element, by place and by recursion
all_to : (P : Condition → Type 0) (xs : List Condition) → AllByRecursion P xs → All P xs
all_to P [] h k d lt = absurd (omega (arith, lt))
all_to P (x ∷ xs) h zero d lt = h.0
all_to P (x ∷ xs) h (suc k) d lt = all_to P xs h.1 k d (omega (arith, lt))

all_from : (P : Condition → Type 0) (xs : List Condition) → All P xs → AllByRecursion P xs
all_from P [] h = tt
all_from P (x ∷ xs) h = (h 0 x (omega arith), all_from P xs (λ k d lt. h (suc k) d (omega (arith, lt))))

pub said_each : (cs rule : List Condition) → IsPermutation cs rule → IsRule rule → AllByRecursion IsCondition cs
said_each cs rule order h = all_from IsCondition cs (All-permutation IsCondition rule cs (IsPermutation-sym cs rule order) (all_to IsCondition rule h.each))

-- an item of a rule has nothing wrong behind the items before it
pub good_here : (is : List Item) (rule : List Condition) (js : List Item) (j : Item) (more : List Item) (u rest : List ℕ) → SayRule is rule → is ≡ js ++ j ∷ more → ItemAt u j rest
    → (q s : ℕ) → WrongItem (map (λ item. item.key) js) u q s → ⊥
good_here is rule js j more u rest h e at q s w = good_item (map (λ item. item.key) js) u j rest x.here at may here_is x.key x.value q s w
  where
    x : Split js j more h.conditions
    x = say_split js j more h.conditions (subst (λ l. Say l h.conditions) e h.say)

    order : IsPermutation (x.before ++ x.here ∷ x.after) rule
    order = subst (λ l. IsPermutation l rule) x.is h.order

    each : AllByRecursion IsCondition (x.before ++ x.here ∷ x.after)
    each = said_each (x.before ++ x.here ∷ x.after) rule order h.is_rule

    here_is : IsCondition x.here
    here_is = (all_back IsCondition x.before (x.here ∷ x.after) each).0

    front : AllByRecursion IsCondition x.before
    front = all_front IsCondition x.before (x.here ∷ x.after) each

    keys_are : map (λ item. item.key) js ≡ map key_text x.before
    keys_are = say_keys js x.before x.say

    stands : (k : Key) → IsKey k → Contains (map (λ item. item.key) js) (key_bytes k) → has_rank (key_rank k) x.before ≡ true
    stands k m c = contains_has_rank x.before k front m (subst (λ l. Contains l (key_bytes k)) keys_are c)

    in_rule : (r : ℕ) → has_rank r (x.before ++ x.here ∷ x.after) ≡ true → has_rank r rule ≡ true
    in_rule r t = sym (list_any-IsPermutation (λ d. rank d == r) (x.before ++ x.here ∷ x.after) rule order) ∙ t

    spelled : key_bytes (key_of x.here) ≡ j.key
    spelled = sym (x.key ∙ key_text-of x.here)

    at_rank : (k : Key) → IsKey k → key_bytes k ≡ j.key → has_rank (key_rank k) (x.before ++ x.here ∷ x.after) ≡ true
    at_rank k m is = any_mid (λ d. rank d == key_rank k) x.before x.here x.after (eq-eqb (rank x.here) (key_rank k) (rank-of x.here ∙ ap key_rank (key_is (key_of x.here) k (is_key-of x.here here_is) m (spelled ∙ sym is))))

    both : (has_rank 4 (x.before ++ x.here ∷ x.after) ≡ true) → (has_rank 5 (x.before ++ x.here ∷ x.after) ≡ true) → ⊥
    both four five = both_ways (has_rank 4 rule && has_rank 5 rule) h.is_rule.one_path (and_from (has_rank 4 rule) (has_rank 5 rule) (in_rule 4 four) (in_rule 5 five))

    no_rival : IsRival (map (λ item. item.key) js) j.key → ⊥
    no_rival (inl (is, other)) = both (at_rank keys.Path tt (sym is)) (any_front (λ d. rank d == 5) x.before (x.here ∷ x.after) (stands keys.PathNamespace tt other))
    no_rival (inr (is, other)) = both (any_front (λ d. rank d == 4) x.before (x.here ∷ x.after) (stands keys.Path tt other)) (at_rank keys.PathNamespace tt (sym is))

    may : MayStand (map (λ item. item.key) js) j.key
    may = record {
      known = λ unknown. unknown x.here here_is (sym x.key);
      once = λ c. before_once x.before x.here x.after rule order h.is_rule
          (ap (λ r. has_rank r x.before) (rank-of x.here) ∙ stands (key_of x.here) (is_key-of x.here here_is) (subst (λ l. Contains (map (λ item. item.key) js) l) (sym spelled) c));
      no_rival = no_rival;
    }

-- items with something wrong behind them go on behind the items of a rule
pub record GoesOn (is js : List Item) (r u : List ℕ) : Type 0 where
  pub more : List Item
  pub is_more : js ≡ is ++ more
  pub rest : r ≡ with_commas more ++ u

pub goes_on : (is : List Item) (rule : List Condition) (r : List ℕ) (js : List Item) (u : List ℕ) (q s : ℕ) → SayRule is rule → AllByRecursion IsItem js → with_commas is ++ r ≡ with_commas js ++ u
    → WrongItem (map (λ item. item.key) js) u q s → GoesOn is js r u
goes_on is rule r js u q s h k e w = by (order_of is js r u h.each k e)
  where
    item_of : (js : List Item) (j : Item) (more is : List Item) → AllByRecursion IsItem is → is ≡ js ++ j ∷ more → IsItem j
    item_of js j more is each e = at js (subst (λ l. AllByRecursion IsItem l) e each)
      where
        at : (js : List Item) → AllByRecursion IsItem (js ++ j ∷ more) → IsItem j
        at [] h = h.0
        at (i ∷ js) h = at js h.1

    by : Order is js r u → GoesOn is js r u
    by (ahead more a b) = record { more = more; is_more = a; rest = b }
    by (behind j more a b) =
        absurd (good_here is rule js j more u (44 ∷ (with_commas more ++ r)) h a (record { item_is = item_of js j more is h.each a; ends = refl; is = b }) q s w)

-- nothing is wrong with no bytes
key_no_bytes : (bl key b : List ℕ) → KeyAt [] bl key b → ⊥
key_no_bytes bl key b h = omega (arith, ap length h.is, length-append bl (key ++ 61 ∷ b), length-append key (61 ∷ b))

pub nothing_wrong : (ks : List (List ℕ)) (q s : ℕ) → WrongItem ks [] q s → ⊥
nothing_wrong ks q s (no_equals bl word b some blank is_word ends is) = some refl
nothing_wrong ks q s (unknown_key bl key b k unknown) = key_no_bytes bl key b k
nothing_wrong ks q s (twice bl key b k again) = key_no_bytes bl key b k
nothing_wrong ks q s (not_closed bl key b parts k lawful quotable) = key_no_bytes bl key (spelling parts ++ 39 ∷ b) k
nothing_wrong ks q s (bad_type item rest k is none) = key_no_bytes item.blanks item.key (spelling item.parts ++ rest) (item_key [] item rest k)
nothing_wrong ks q s (bad_value item rest k not none) = key_no_bytes item.blanks item.key (spelling item.parts ++ rest) (item_key [] item rest k)
nothing_wrong ks q s (both_paths bl key b k rival) = key_no_bytes bl key b k

-- a list of items ends in a comma
record EndsComma (items : List Item) : Type 0 where
  before : List ℕ
  is : with_commas items ≡ before ++ 44 ∷ []

ends_comma : (m : Item) (ms : List Item) → EndsComma (m ∷ ms)
ends_comma m [] = record { before = item_text m; is = append-nil (item_text m ++ 44 ∷ []) }
ends_comma m (n ∷ ms) =
    let later = ends_comma n ms in
    record { before = (item_text m ++ 44 ∷ []) ++ later.before; is = ap (λ l. (item_text m ++ 44 ∷ []) ++ l) later.is ∙ sym (append_assoc (item_text m ++ 44 ∷ []) later.before (44 ∷ [])) }

record LastItem (u : List ℕ) (j : Item) : Type 0 where
  rest : List ℕ
  at : ItemAt u j rest

last_comma : (j : Item) (more : List Item) (u : List ℕ) → IsItem j → u ++ 44 ∷ [] ≡ item_text j ++ 44 ∷ (with_commas more ++ []) → LastItem u j
last_comma j [] u h e = record { rest = []; at = record { item_is = h; ends = tt; is = (same_from_push u (item_text j) 44 44 e).0 ∙ sym (append-nil (item_text j)) } }
last_comma j (m ∷ ms) u h e =
    let c = ends_comma m ms in
    let whole : u ++ 44 ∷ [] ≡ (item_text j ++ 44 ∷ c.before) ++ 44 ∷ [] = e ∙ ap (λ l. item_text j ++ 44 ∷ l) (append-nil (with_commas (m ∷ ms)) ∙ c.is) ∙ sym (append_assoc (item_text j) (44 ∷ c.before) (44 ∷ [])) in
    record { rest = 44 ∷ c.before; at = record { item_is = h; ends = refl; is = (same_from_push u (item_text j ++ 44 ∷ c.before) 44 44 whole).0 } }

item_in : (js : List Item) (j : Item) (more : List Item) → AllByRecursion IsItem (js ++ j ∷ more) → IsItem j
item_in [] j more h = h.0
item_in (i ∷ js) j more h = item_in js j more h.1

-- a text of a rule has nothing wrong in an item
pub no_item_wrong : (bytes : List ℕ) (rule : List Condition) → Spells bytes rule → (js : List Item) (u : List ℕ) (q s : ℕ) → AllByRecursion IsItem js → bytes ≡ with_commas js ++ u
    → WrongItem (map (λ item. item.key) js) u q s → ⊥
no_item_wrong bytes rule h js u q s k e w = by h.joined
  where
    at_end : (more : List Item) → [] ≡ with_commas more ++ u → ⊥
    at_end [] is = nothing_wrong (map (λ item. item.key) js) q s (subst (λ l. WrongItem (map (λ item. item.key) js) l q s) (sym is) w)
    at_end (m ∷ ms) is = omega (arith, ap length (is ∙ cons_text m ms u), two_at_least m (with_commas ms ++ u))

    no_more : (more : List Item) → [] ≡ with_commas more ++ (u ++ 44 ∷ []) → ⊥
    no_more more is = omega (arith, ap length is, length-append (with_commas more) (u ++ 44 ∷ []), length-append u (44 ∷ []))

    missing : Order h.items js [] (u ++ 44 ∷ []) → ⊥
    missing (ahead more a b) = no_more more b
    missing (behind j more a b) =
        let last = last_comma j more u (item_in js j more (subst (λ l. AllByRecursion IsItem l) a h.say_rule.each)) b in
        good_here h.items rule js j more u last.rest h.say_rule a last.at q s w

    by : AreJoined h.items bytes → ⊥
    by (inl is) =
        let g = goes_on h.items rule [] js u q s h.say_rule k (append-nil (with_commas h.items) ∙ is ∙ e) w in
        at_end g.more g.rest
    by (inr is) =
        missing (order_of h.items js [] (u ++ 44 ∷ []) h.say_rule.each k (append-nil (with_commas h.items) ∙ is ∙ ap (λ l. l ++ 44 ∷ []) e ∙ append_assoc (with_commas js) u (44 ∷ [])))

pub no_wrong : (bytes : List ℕ) (rule : List Condition) → IsRuleText bytes rule → (q s : ℕ) → WrongRule bytes q s → ⊥
no_wrong bytes rule h q s (in_item js u place reason k e w) = no_item_wrong bytes rule h.spells js u place reason k e w
no_wrong bytes rule h q s (too_long long) = omega (arith, h.short, long)
